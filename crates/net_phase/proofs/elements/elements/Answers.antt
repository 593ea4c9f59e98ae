use Rattle.std.proofs.Common.{rules, ◌≡◌, List, map, length, get_or, refl, arith, ap, subst}
use Rattle.cell_context.proofs.Collecting.{near_array}
use Rattle.cell_graph.specs.Linked.{cell_at, places_at, reference}
use Rattle.cell_graph.specs.declared.cells.Place.{Place}
use Rattle.flat_layout.specs.Arrays.{array_places}
use Rattle.std.proofs.Common.{◌++◌}
use Rattle.net_phase.proofs.Arraying.{elements_all, no_place, place_there, refs_more}
use Rattle.net_phase.proofs.elements.elements.Goals as goal
use Rattle.net_walk.specs.Walk.{place_of}

pub loop-place-init : goal.loop-place-init
loop-place-init c = rw c.in_ok-out.ensures.items refl

pub push_array-requires : goal.push_array-requires
push_array-requires c =
    let d = c.args.design.now in
    let k = c.loop-place.place-index in
    near_array d c.args.cell k (get_or c.places-place-items.result.now k no_place) c.sound.ensures (place_there d c.args.cell k c.places-place-items.result.now c.places-place-items.ensures (omega arith))

pub loop-place-preserved : goal.loop-place-preserved
loop-place-preserved c =
    let d = c.args.design.now in
    let k = c.loop-place.place-index in
    let refs = places_at (cell_at d c.args.cell) in
    let same = c.places-place-items.ensures in
    let long = ap (λ (l : List Place). length l) same in
    let added : map place_of c.push_array.new.out.items ≡ map place_of c.loop-place.out.items ++ array_places (reference (get_or refs k no_place)) 0 (get_or refs k no_place).rows =
    subst (λ (l : List Place). map place_of c.push_array.new.out.items ≡ map place_of c.loop-place.out.items ++ array_places (reference (get_or l k no_place)) 0 (get_or l k no_place).rows) same c.in_ok-push_array.ensures in
    refs_more refs k no_place (map place_of c.loop-place.out.items) (map place_of c.push_array.new.out.items) (omega (arith, long)) c.loop-place.invariant added

pub returns : goal.returns
returns c =
    let d = c.args.design.now in
    let same = c.places-place-items.ensures in
    let long = ap (λ (l : List Place). length l) same in
    let n = c.len.ensures in
    let kept : c.in_ok-ok_or.field-0 ≡ c.len.result = search rules in
    elements_all d c.args.cell c.loop-place.place-index (places_at (cell_at d c.args.cell)) c.loop-place.out.items c.sound.ensures refl (omega (arith, long)) c.loop-place.invariant (omega (arith, n, kept))
