-- The order of the reached cells, sorted.
use Rattle.std.proofs.Common.{◌≡◌, inl, inr, ℕ, ◌<◌, eqb, List, length, get_or, sym, subst, ◌∙◌, arith}
use Rattle.std.specs.Prelude.{Contains}
use Rattle.std.specs.List.{IsDistinct}
use Rattle.std.specs.List.Sorted.{IsPermutation, IsNonDecreasing}
use Rattle.std.proofs.lemmas.Bool.Decides.{eqb_tells}
use Rattle.std.proofs.lemmas.List.{get_or_default}
use Rattle.std.proofs.lemmas.List.Sorted.{IsPermutation-sym, Contains-permutation}
use Rattle.std.proofs.lemmas.Map.Keys.{IsDistinct-IsPermutation, IsDistinct-from_apart, IsStrictlyIncreasing-from_distinct}
use Rattle.flat_layout.specs.Layout.{IsReached}
use Rattle.cell_graph.specs.Linked.{Linked, IsOrder, plain}
use Rattle.layout_shapes.specs.Written.{AreReached}

flips : (x y : ℕ) → eqb x y ≡ eqb y x
flips x y = elim (eqb_tells x y) [
  | inl hit ↦ elim (eqb_tells y x) [ inl back ↦ hit.0 ∙ sym back.0 | inr miss ↦ absurd (miss.1 (sym hit.1)) ]
  | inr miss ↦ elim (eqb_tells y x) [ inl back ↦ absurd (miss.1 (sym back.1)) | inr none ↦ miss.0 ∙ sym none.0 ]
]

-- each cell stands in the order once
apart : (d : Linked) → IsOrder d → IsDistinct eqb d.order
apart d order = IsDistinct-from_apart eqb d.order (λ i j z lt in_order.
    elim (eqb_tells (get_or d.order i z) (get_or d.order j z)) [
      | inr miss ↦ miss.0
      | inl hit ↦
          let before : i < length d.order = omega (arith, lt, in_order) in
          let same : i ≡ j = order.once i j before in_order (get_or_default d.order i 0 z before ∙ hit.1 ∙ get_or_default d.order j z 0 in_order) in
          absurd (let bad : ⊥ = omega (arith, lt, same) in bad)
    ])

pub contained : (d : Linked) → IsOrder d → (cell : ℕ) → Contains d.order cell → IsReached (plain d) cell
contained d order cell (k, lt, e) = subst (λ (c : ℕ). IsReached (plain d) c) (get_or_default d.order k 0 cell lt ∙ e) (order.reached k lt)

pub reached : (d : Linked) → IsOrder d → (cell : ℕ) → IsReached (plain d) cell → Contains d.order cell
reached d order cell r = let h = order.all cell r in (h.0, h.1, get_or_default d.order h.0 cell 0 h.1 ∙ h.2)

pub sorted : (d : Linked) (found : List ℕ) → IsOrder d → IsPermutation d.order found → IsNonDecreasing found → AreReached d found
sorted d found order perm rising = record {
  each = λ cell. (
    (λ h. contained d order cell (Contains-permutation found d.order cell (IsPermutation-sym _ _ perm) h)),
    (λ r. Contains-permutation d.order found cell perm (reached d order cell r)),
  );
  ascending = IsStrictlyIncreasing-from_distinct found rising (IsDistinct-IsPermutation eqb flips d.order found perm (apart d order));
}

-- each of them is reached, and a cell of the design
pub reached_at : (d : Linked) (found : List ℕ) (k : ℕ) (z : ℕ) → AreReached d found → k < length found → IsReached (plain d) (get_or found k z)
reached_at d found k z are lt = (are.each (get_or found k z)).0 (k, lt, get_or_default found k (get_or found k z) z lt)

pub within : (d : Linked) (cell : ℕ) → IsOrder d → IsReached (plain d) cell → cell < length d.cells
within d cell order r = let h = order.all cell r in subst (λ (c : ℕ). c < length d.cells) h.2 (order.inside h.0 h.1)
