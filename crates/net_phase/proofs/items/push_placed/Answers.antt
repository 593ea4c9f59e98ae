use Rattle.std.proofs.Common.{◌≡◌, ◌++◌, ◌∙◌, Some, map, slice_get, get_or, length, ap, arith}
use Rattle.deep_tables.specs.Nets.{plain_item}
use Rattle.flat_layout.specs.Layout.{Place}
use Rattle.flat_layout.specs.Nets.{Child, run}
use Rattle.net_link_laws.specs.Places.{places_of}
use Rattle.net_phase.proofs.Itemizing.{children_all, children_more}
use Rattle.net_phase.proofs.items.push_placed.Goals as goal
use Rattle.net_walk.proofs.Placing.{nothing_behind}
use Rattle.net_walk.proofs.Walking.{as_long, element_at, no_element}
use Rattle.net_walk.specs.Walk.{place_of}

pub loop-place-init : goal.loop-place-init
loop-place-init g c = nothing_behind (map plain_item c.args.out.now.items)

pub loop-place-preserved : goal.loop-place-preserved
loop-place-preserved g c =
    let d = g.C.Cells.design c.args.cells.now in
    let t = g.C.Cells.tables c.args.cells.now in
    let ps = places_of d c.args.cell in
    let es = c.places-elements.result.now in
    let k = c.loop-place.place in
    let p : Place = place_of (get_or es k no_element) in
    let there : slice_get ps k ≡ Some p = element_at es ps k c.places-elements.ensures.all (omega arith) in
    let added = c.in_ok-push_nets.ensures ∙ ap (λ i. map plain_item c.loop-place.out.items ++ run (Child k) 0 i) c.count.ensures in
    children_more t k ps p (map plain_item c.args.out.now.items) (map plain_item c.loop-place.out.items) (map plain_item c.push_nets.new.out.items) there c.loop-place.invariant added

pub returns : goal.returns
returns g c =
    let d = g.C.Cells.design c.args.cells.now in
    let t = g.C.Cells.tables c.args.cells.now in
    let ps = places_of d c.args.cell in
    let es = c.places-elements.result.now in
    let k = c.loop-place.place in
    let long = as_long es ps c.places-elements.ensures.all in
    let end : k ≡ length ps = omega arith in
    children_all t k ps (map plain_item c.args.out.now.items) (map plain_item c.loop-place.out.items) end c.loop-place.invariant
