-- One position more.
use Rattle.std.proofs.Common.{◌≡◌, ℕ, ◌+◌, ◌-◌, ◌<◌, List, Some, length, set, slice_index, sym, ◌∙◌, ap, arith}
use Rattle.std.proofs.Math.Decide.{ℕ_discrete}
use Rattle.std.proofs.lemmas.List.{get_or-set_same, get_or-set_other}
use Rattle.std.proofs.lemmas.Option.{slice_get-get_or}
use Rattle.plain_netlist.specs.Lists.{AreApart}
use Rattle.plain_netlist.proofs.Listing.{apart_at}
use Rattle.call_order.proofs.Closing.{apart_by}
use Rattle.cell_graph.specs.Linked.{IsOrder, Linked}
use Rattle.deep_tables.specs.Positions.{AreApartBelow, ArePositions, AreReversed}

other : (order : List ℕ) (j k : ℕ) → AreApart order → j < length order → k < length order → (j ≡ k → ⊥) → slice_index order j ≡ slice_index order k → ⊥
other order j k apart l m not e =
    not (apart_at (slice_index order j) order j k apart (slice_get-get_or order j 0 l) (slice_get-get_or order k 0 m ∙ ap Some (sym e)))

pub position_more : (count k : ℕ) (order places : List ℕ) → AreApartBelow count order → length places ≡ count → k < length order → ArePositions order k places
    → ArePositions order (k + 1) (set places (slice_index order k) k)
position_more count k order places numbers long lt before j l = elim (ℕ_discrete j k) [
  | yes e ↦
      let here = numbers.inside k lt in
      ap (λ n. slice_index (set places (slice_index order k) k) (slice_index order n)) e
      ∙ get_or-set_same places (slice_index order k) k 0 (let f : slice_index order k < length places = omega (arith, here, long) in f) ∙ sym e
  | no n ↦
      get_or-set_other places (slice_index order k) (slice_index order j) k 0 (other order j k numbers.apart (omega arith) lt n) ∙ before j (omega arith)
]

pub reversed_more : (count k : ℕ) (order places : List ℕ) → AreApartBelow count order → length places ≡ count → k < length order → AreReversed order k places
    → AreReversed order (k + 1) (set places (slice_index order k) (length order - 1 - k))
reversed_more count k order places numbers long lt before j l = elim (ℕ_discrete j k) [
  | yes e ↦
      let here = numbers.inside k lt in
      ap (λ n. slice_index (set places (slice_index order k) (length order - 1 - k)) (slice_index order n)) e
      ∙ get_or-set_same places (slice_index order k) (length order - 1 - k) 0 (let f : slice_index order k < length places = omega (arith, here, long) in f)
      ∙ ap (λ n. length order - 1 - n) (sym e)
  | no n ↦
      get_or-set_other places (slice_index order k) (slice_index order j) (length order - 1 - k) 0 (other order j k numbers.apart (omega arith) lt n)
      ∙ before j (omega arith)
]

-- the cells of a design's order
pub order_numbers : (d : Linked) → IsOrder d → AreApartBelow (length d.cells) d.order
order_numbers d order = record { inside = order.inside; apart = apart_by d.order order.once }
