use Rattle.std.proofs.Common.{◌≡◌, Some, slice_get, get_or, length, ap, arith}
use Rattle.flat_layout.specs.Layout.{Place}
use Rattle.net_link_laws.proofs.Standing.{child_next, items_long, nets_none}
use Rattle.net_link_laws.specs.Places.{owned_before, places_of}
use Rattle.net_walk.proofs.Spanning.{child_room}
use Rattle.net_walk.proofs.Walking.{as_long, element_at, no_element}
use Rattle.net_walk.specs.Walk.{place_of}
use Rattle.net_walk.proofs.Uniting.{firsts_all, firsts_more, no_firsts}
use Rattle.net_walk.proofs.together.first_places.Goals as goal

pub owned_before-at-requires : goal.owned_before-at-requires
owned_before-at-requires g c =
    let d = g.C.Cells.design c.args.cells.now in
    let w = g.C.Cells.wiring c.args.cells.now in
    let t = g.C.Cells.tables c.args.cells.now in
    let cell = c.args.cell in
    let long = items_long d w t cell in
    let room = c.requires in
    let e = ap (owned_before t cell) c.conductors.ensures in
    omega (arith, long, room, e)

pub overflow_cast-at : goal.overflow_cast-at
overflow_cast-at g c =
    let d = g.C.Cells.design c.args.cells.now in
    let w = g.C.Cells.wiring c.args.cells.now in
    let t = g.C.Cells.tables c.args.cells.now in
    let cell = c.args.cell in
    let long = items_long d w t cell in
    let room = c.requires in
    let e = ap (owned_before t cell) c.conductors.ensures in
    let at = c.owned_before-at.ensures in
    omega (arith, long, room, e, at)

pub loop-element-init : goal.loop-element-init
loop-element-init g c =
    let d = g.C.Cells.design c.args.cells.now in
    let w = g.C.Cells.wiring c.args.cells.now in
    let t = g.C.Cells.tables c.args.cells.now in
    let cell = c.args.cell in
    let none = nets_none t (places_of d cell) in
    let e = ap (owned_before t cell) c.conductors.ensures in
    let at = c.owned_before-at.ensures in
    record { at = omega (arith, none, e, at); firsts = rw c.new-firsts.ensures.items (no_firsts d w t cell) }

pub overflow_add-at : goal.overflow_add-at
overflow_add-at g c =
    let d = g.C.Cells.design c.args.cells.now in
    let w = g.C.Cells.wiring c.args.cells.now in
    let t = g.C.Cells.tables c.args.cells.now in
    let cell = c.args.cell in
    let k = c.loop-element.element-index in
    let p : Place = place_of (get_or c.places-element-items.result.now k no_element) in
    let there : slice_get (places_of d cell) k ≡ Some p = element_at c.places-element-items.result.now (places_of d cell) k c.places-element-items.ensures.all (omega arith) in
    let next = child_next t (places_of d cell) k p there in
    let fits = child_room d w t cell k p there in
    let room = c.requires in
    let i = c.loop-element.invariant.at in
    let n = c.count-at.ensures in
    omega (arith, fits, room, i, n)

pub loop-element-preserved : goal.loop-element-preserved
loop-element-preserved g c =
    let d = g.C.Cells.design c.args.cells.now in
    let w = g.C.Cells.wiring c.args.cells.now in
    let t = g.C.Cells.tables c.args.cells.now in
    let cell = c.args.cell in
    let k = c.loop-element.element-index in
    let p : Place = place_of (get_or c.places-element-items.result.now k no_element) in
    let there : slice_get (places_of d cell) k ≡ Some p = element_at c.places-element-items.result.now (places_of d cell) k c.places-element-items.ensures.all (omega arith) in
    let next = child_next t (places_of d cell) k p there in
    let i = c.loop-element.invariant.at in
    let n = c.count-at.ensures in
    record {
      at = omega (arith, next, i, n);
      firsts = rw c.in_ok-push.ensures.items (firsts_more d w t cell k c.loop-element.at c.loop-element.firsts.items i c.loop-element.invariant.firsts);
    }

pub returns : goal.returns
returns g c =
    let d = g.C.Cells.design c.args.cells.now in
    let w = g.C.Cells.wiring c.args.cells.now in
    let t = g.C.Cells.tables c.args.cells.now in
    let cell = c.args.cell in
    let long = as_long c.places-element-items.result.now (places_of d cell) c.places-element-items.ensures.all in
    let end : c.loop-element.element-index ≡ length (places_of d cell) = omega arith in
    firsts_all d w t cell c.loop-element.element-index c.loop-element.firsts.items end c.loop-element.invariant.firsts
