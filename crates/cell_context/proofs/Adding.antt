-- Visits that are added to others.
use Rattle.std.proofs.Common.{◌≡◌, ℕ, List, [], ◌∷◌, ◌++◌, inl, sym, subst, append-nil, arith}
use Rattle.std.specs.List.{All}
use Rattle.std.proofs.lemmas.List.Elements.{All-append, All-push}
use Rattle.geo_base.specs.declared.shapes.Rect.{Rect}
use Rattle.geo_base.specs.declared.shapes.Square.{Square}
use Rattle.cell_graph.specs.declared.cells.Place.{Place}
use Rattle.cell_context.specs.declared.arrays.Visit.{Visit}
use Rattle.cell_context.specs.Arrays.{IsAlone}
use Rattle.cell_context.specs.Visits.{AddsVisits, IsElementOf, IsElementVisit, IsFound, IsMet, IsVisited}
use Rattle.cell_context.proofs.Visiting.{some_behind, some_more}

pub all_none : {A : Type 0} (P : A → Type 0) → All P []
all_none P k x lt = absurd (let z : ⊥ = omega arith in z)

-- all are visits of the array's elements still
pub adds_each : (p : Place) (hull w : Rect) (meant : ℕ → ℕ → Type 0) (old new : List Visit) → AddsVisits p hull w meant old new → All (IsElementVisit p hull w) old → All (IsElementVisit p hull w) new
adds_each p hull w meant old new adds all = subst (All (IsElementVisit p hull w)) (sym adds.behind) (All-append (IsElementVisit p hull w) old adds.more all adds.each)

-- what was found still is
pub adds_kept : (p : Place) (hull w : Rect) (meant : ℕ → ℕ → Type 0) (old new : List Visit) (row column : ℕ) (q : Square) → AddsVisits p hull w meant old new → IsFound p row column q old → IsFound p row column q new
adds_kept p hull w meant old new row column q adds found = subst (IsFound p row column q) (sym adds.behind) (some_more (IsVisited p row column q) old adds.more found)

-- what is meant is found
pub adds_found : (p : Place) (hull w : Rect) (meant : ℕ → ℕ → Type 0) (old new : List Visit) (row column : ℕ) (q : Square) → AddsVisits p hull w meant old new → meant row column → IsMet p hull w row column q → IsFound p row column q new
adds_found p hull w meant old new row column q adds is met = subst (IsFound p row column q) (sym adds.behind) (some_behind (IsVisited p row column q) old adds.more (adds.found row column q is met))

-- a reference of one placement has one element
pub only_element : (p : Place) (row column : ℕ) → IsAlone p → IsElementOf p row column → (row ≡ 0) × (column ≡ 0)
only_element p row column (one, other) (low, left) = ((omega (arith, one, low)), (omega (arith, other, left)))

-- the visit of one element
pub adds_one : (p : Place) (hull w : Rect) (row column : ℕ) (old new : List Visit) (v : Visit) → new ≡ old ++ v ∷ [] → IsElementVisit p hull w v
    → ((q : Square) → IsMet p hull w row column q → IsVisited p row column q v) → AddsVisits p hull w (λ i j. (i ≡ row) × (j ≡ column)) old new
adds_one p hull w row column old new v behind is found = record {
  more = v ∷ [];
  behind = behind;
  each = All-push (IsElementVisit p hull w) [] v (all_none (IsElementVisit p hull w)) is;
  found = λ i j q (e, f) met.
      subst (λ k. IsFound p k j q (v ∷ [])) (sym e) (subst (λ k. IsFound p row k q (v ∷ [])) (sym f)
      (inl (found q (subst (λ k. IsMet p hull w row k q) f (subst (λ k. IsMet p hull w k j q) e met)))));
}

-- nothing to be added
pub adds_none : (p : Place) (hull w : Rect) (row column : ℕ) (old : List Visit) → ((q : Square) → IsMet p hull w row column q → ⊥) → AddsVisits p hull w (λ i j. (i ≡ row) × (j ≡ column)) old old
adds_none p hull w row column old none = record {
  more = [];
  behind = sym (append-nil old);
  each = all_none (IsElementVisit p hull w);
  found = λ i j q (e, f) met. absurd (none q (subst (λ k. IsMet p hull w row k q) f (subst (λ k. IsMet p hull w k j q) e met)));
}

-- the visit of the one element is that of all
pub adds_alone : (p : Place) (hull w : Rect) (old new : List Visit) → IsAlone p → AddsVisits p hull w (λ i j. (i ≡ 0) × (j ≡ 0)) old new → AddsVisits p hull w (IsElementOf p) old new
adds_alone p hull w old new alone adds = record {
  more = adds.more;
  behind = adds.behind;
  each = adds.each;
  found = λ row column q is met. adds.found row column q (only_element p row column alone is) met;
}
