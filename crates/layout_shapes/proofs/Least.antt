-- The least number that passes a test, one number after another; and the first cell that is wide.
use Rattle.std.proofs.Common.{◌≡◌, inl, inr, ℕ, ◌<◌, List, [], ◌∷◌, ◌++◌, Option, Some, None, zero, suc, length, refl, sym, subst, arith}
use Rattle.std.specs.Prelude.{Contains}
use Rattle.std.specs.List.{All}
use Rattle.std.proofs.lemmas.List.{get_or_default}
use Rattle.std.proofs.Math.Nat.{min-eq_left, min-eq_right}
use Rattle.std.proofs.lemmas.Bool.{cases_lt}
use Rattle.std.proofs.lemmas.List.Elements.{Contains-append_left, Contains-append_right, Contains-append_cases}
use Rattle.cell_graph.specs.Linked.{Linked, IsOrder, plain}
use Rattle.rule_text.specs.Rules.{Rules}
use Rattle.deep_tables.specs.declared.layers.CellLayers.{CellLayers}
use Rattle.layout_shapes.specs.Wide.{IsLeast, IsFirstWide, IsWideCell, lesser}
use Rattle.layout_shapes.proofs.Reaching.{contained, reached}

one_is : (x n : ℕ) → Contains (x ∷ []) n → x ≡ n
one_is x n (zero, lt, e) = e
one_is x n (suc k, lt, e) = absurd (let z : ⊥ = omega (arith, lt) in z)

-- what holds of each of the numbers and of one more
one_more : (P : ℕ → Type 0) (xs : List ℕ) (x : ℕ) → ((n : ℕ) → Contains xs n → P n) → P x → (n : ℕ) → Contains (xs ++ x ∷ []) n → P n
one_more P xs x h here n c = elim (Contains-append_cases xs (x ∷ []) n c) [
  | inl a ↦ h n a
  | inr b ↦ subst P (one_is x n b) here
]

pub not_more : (P : ℕ → Type 0) (xs : List ℕ) (x : ℕ) (o : Option ℕ) → (P x → ⊥) → IsLeast P xs o → IsLeast P (xs ++ x ∷ []) o
not_more P xs x None not h = one_more (λ n. P n → ⊥) xs x h not
not_more P xs x (Some m) not (there, is, none) =
    (Contains-append_left xs (x ∷ []) m there, is, λ n lt c. one_more (λ n. n < m → P n → ⊥) xs x (λ n c lt. none n lt c) (λ lt. not) n c lt)

pub more : (P : ℕ → Type 0) (xs : List ℕ) (x : ℕ) (o : Option ℕ) → P x → IsLeast P xs o → IsLeast P (xs ++ x ∷ []) (Some (lesser o x))
more P xs x None e h =
    (Contains-append_right xs (x ∷ []) x (0, (omega arith), refl), e, λ n lt c. one_more (λ n. n < x → P n → ⊥) xs x (λ n c lt. h n c) (λ lt. absurd (let z : ⊥ = omega (arith, lt) in z)) n c lt)
more P xs x (Some m) e (there, is, none) = elim (cases_lt m x) [
  | inl lt ↦ subst (λ k. IsLeast P (xs ++ x ∷ []) (Some k)) (sym (min-eq_left (omega (arith, lt))))
      (Contains-append_left xs (x ∷ []) m there, is, λ n less c. one_more (λ n. n < m → P n → ⊥) xs x (λ n c less. none n less c) (λ less. absurd (let z : ⊥ = omega (arith, less, lt) in z)) n c less)
  | inr lt ↦ subst (λ k. IsLeast P (xs ++ x ∷ []) (Some k)) (sym (min-eq_right lt))
      (Contains-append_right xs (x ∷ []) x (0, (omega arith), refl), e, λ n less c. one_more (λ n. n < x → P n → ⊥) xs x (λ n c less. none n (omega (arith, less, lt)) c) (λ less. absurd (let z : ⊥ = omega (arith, less) in z)) n c less)
]

-- over the order of a design it is the first of the cells that the top reaches
pub first : (d : Linked) (r : Rules) (table : List (Option CellLayers)) (o : Option ℕ) → IsOrder d → IsLeast (IsWideCell (plain d) r table) d.order o → IsFirstWide d r table o
first d r table None order h = λ n reach. h n (reached d order n reach)
first d r table (Some f) order (there, is, none) = (contained d order f there, is, λ n lt reach. none n lt (reached d order n reach))

-- the numbers of the order are numbers of cells
pub all_inside : (d : Linked) → IsOrder d → All (λ k. k < length d.cells) d.order
all_inside d order k z lt = subst (λ n. n < length d.cells) (get_or_default d.order k 0 z lt) (order.inside k lt)
