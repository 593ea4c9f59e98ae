use Rattle.std.proofs.Common.{◌≡◌, [], Some, slice_get, length, get_or, arith, refl, subst}
use Rattle.flat_laws.proofs.Items.{placed_at}
use Rattle.flat_layout.specs.Layout.{Place}
use Rattle.net_link_laws.specs.Places.{places_of}
use Rattle.net_walk.proofs.Grounding.{no_placement, placements_more}
use Rattle.net_walk.proofs.Walking.{as_long, element_at, no_element}
use Rattle.net_walk.proofs.globals.join_placements.Goals as goal
use Rattle.net_walk.specs.Globals.{AddsToGlobals, IsOfPlacements}
use Rattle.net_walk.specs.Walk.{place_of}

pub loop-k-init : goal.loop-k-init
loop-k-init g c =
    let d = g.C.Cells.design c.args.cells.now in
    let w = g.C.Cells.wiring c.args.cells.now in
    let t = g.C.Cells.tables c.args.cells.now in
    let cell = c.args.globals.now.cell in
    no_placement d w t cell c.args.out.now.items

pub join_globals-requires-clause-placed : goal.join_globals-requires-clause-placed
join_globals-requires-clause-placed g c = element_at c.places-elements.result.now (places_of (g.C.Cells.design c.args.cells.now) c.args.globals.now.cell) c.loop-k.k c.places-elements.ensures.all (omega arith)

pub join_globals-requires-clause-nets : goal.join_globals-requires-clause-nets
join_globals-requires-clause-nets g c =
    let d = g.C.Cells.design c.args.cells.now in
    let w = g.C.Cells.wiring c.args.cells.now in
    let t = g.C.Cells.tables c.args.cells.now in
    let cell = c.args.globals.now.cell in
    let k = c.loop-k.k in
    let p : Place = place_of (get_or c.places-elements.result.now k no_element) in
    let there : slice_get (places_of d cell) k ≡ Some p = element_at c.places-elements.result.now (places_of d cell) k c.places-elements.ensures.all (omega arith) in
    c.requires.right.nets k p.cell p (placed_at d cell k p there) ([], refl)

pub loop-k-preserved : goal.loop-k-preserved
loop-k-preserved g c =
    let d = g.C.Cells.design c.args.cells.now in
    let w = g.C.Cells.wiring c.args.cells.now in
    let t = g.C.Cells.tables c.args.cells.now in
    let cell = c.args.globals.now.cell in
    placements_more d w t cell c.loop-k.k c.args.out.now.items c.loop-k.out.items c.join_globals.new.out.items c.loop-k.invariant c.in_ok-join_globals.ensures

pub returns : goal.returns
returns g c =
    let d = g.C.Cells.design c.args.cells.now in
    let w = g.C.Cells.wiring c.args.cells.now in
    let t = g.C.Cells.tables c.args.cells.now in
    let cell = c.args.globals.now.cell in
    let long = as_long c.places-elements.result.now (places_of d cell) c.places-elements.ensures.all in
    let end : c.loop-k.k ≡ length (places_of d cell) = omega arith in
    subst (λ n. AddsToGlobals d w t cell (IsOfPlacements n) c.args.out.now.items c.loop-k.out.items) end c.loop-k.invariant
