use Rattle.std.proofs.Common.{◌≡◌, ◌<◌, Some, slice_get, get_or, length, refl, arith, subst}
use Rattle.flat_layout.specs.Layout.{Place}
use Rattle.net_link_laws.specs.Places.{places_of}
use Rattle.net_walk.proofs.Siting.{placed_nets}
use Rattle.net_walk.proofs.Walking.{as_long, close_at, element_at, no_element}
use Rattle.net_walk.proofs.Wholes.{whole}
use Rattle.net_walk.proofs.beside.link_piece.Goals as goal
use Rattle.net_walk.specs.Pairs.{first_of}
use Rattle.net_walk.specs.Walk.{place_of}
use Rattle.net_walk.specs.Whole.{IsWholeLink}
use Rattle.touching_pieces.specs.Pairs.{AddsLinks}

pub is_covered-requires : goal.is_covered-requires
is_covered-requires g c =
    let d = g.C.Cells.design c.args.cells.now in
    let es = c.places-elements.result.now in
    let long = as_long es (places_of d c.args.site.now.cell) c.places-elements.ensures.all in
    let lt = c.requires.number in
    close_at es c.args.number c.places-elements.ensures.close (omega (arith, long, lt))

pub whole_links-requires-clause-placed : goal.whole_links-requires-clause-placed
whole_links-requires-clause-placed g c =
    let h = placed_nets (g.C.Cells.design c.args.cells.now) (g.C.Cells.wiring c.args.cells.now) (g.C.Cells.tables c.args.cells.now) c.args.site.now c.places-elements.result.now c.args.number c.requires.site c.places-elements.ensures.all c.places-elements.ensures.close c.requires.number in
    record { nets = h.0; motion = h.1; room = h.2 }

pub returns-then-is_covered-clause-links : goal.returns-then-is_covered-clause-links
returns-then-is_covered-clause-links g c =
    let d = g.C.Cells.design c.args.cells.now in
    let w = g.C.Cells.wiring c.args.cells.now in
    let t = g.C.Cells.tables c.args.cells.now in
    let cell = c.args.site.now.cell in
    let es = c.places-elements.result.now in
    let k = c.args.number in
    let long = as_long es (places_of d cell) c.places-elements.ensures.all in
    let lt = c.requires.number in
    let p : Place = place_of (get_or es k no_element) in
    let there : slice_get (places_of d cell) k ≡ Some p = element_at es (places_of d cell) k c.places-elements.ensures.all (omega (arith, long, lt)) in
    let wide = c.requires.site.firsts.long in
    let within : k < length c.args.site.now.firsts.now = omega (arith, wide, lt) in
    let first = c.requires.site.firsts.each k within in
    let o = c.args.piece.now in
    let n = length w.conductors in
    let new = c.whole_links.new.out.items in
    let links : AddsLinks (IsWholeLink d t c.args.site.now.joins.now o.item o.conductor p.cell (first_of d w t cell k) n) c.args.out.now.items new =
    subst (λ i. AddsLinks (IsWholeLink d t c.args.site.now.joins.now o.item o.conductor p.cell i n) c.args.out.now.items new) first c.in_ok-whole_links.ensures.links in
    whole d w t cell k o p c.args.site.now.joins.now c.args.out.now.items new c.requires.site.right c.requires.piece there c.requires.site.joins (c.if-is_covered.ensures refl) links
