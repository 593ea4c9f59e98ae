use Rattle.std.proofs.Common.{◌≡◌, ◌++◌, List, map, length, get_or, refl, arith, ap, subst}
use Rattle.cell_graph.specs.Linked.{cell_at, places_at, reference}
use Rattle.cell_graph.specs.declared.cells.Place.{Place}
use Rattle.flat_layout.specs.Arrays.{array_places}
use Rattle.circuit_phase.proofs.Copying.{all_arrays, no_place, one_array}
use Rattle.circuit_phase.proofs.cells.placed_cells.Goals as goal

pub loop-place-preserved : goal.loop-place-preserved
loop-place-preserved c =
    let d = c.args.design.now in
    let k = c.loop-place.place-index in
    let refs = places_at (cell_at d c.args.cell) in
    let same = c.places-place-items.ensures in
    let long = ap (λ (l : List Place). length l) same in
    let added : c.push_array.new.out.items ≡ c.loop-place.out.items ++ map (λ p. p.cell) (array_places (reference (get_or refs k no_place)) 0 (get_or refs k no_place).rows) =
    subst (λ (l : List Place). c.push_array.new.out.items ≡ c.loop-place.out.items ++ map (λ p. p.cell) (array_places (reference (get_or l k no_place)) 0 (get_or l k no_place).rows)) same c.in_ok-push_array.ensures in
    one_array refs k no_place c.loop-place.out.items c.push_array.new.out.items (omega (arith, long)) c.loop-place.invariant added

pub returns : goal.returns
returns c =
    let d = c.args.design.now in
    let same = c.places-place-items.ensures in
    let long = ap (λ (l : List Place). length l) same in
    all_arrays d c.args.cell c.loop-place.place-index (places_at (cell_at d c.args.cell)) c.loop-place.out.items refl (omega (arith, long)) c.loop-place.invariant
