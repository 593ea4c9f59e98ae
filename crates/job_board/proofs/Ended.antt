-- The notes of all jobs make the results.
use Rattle.std.proofs.Common.{◌≡◌, ℕ, zero, suc, ◌<◌, ◌||◌, ◌==◌, List, [], ◌∷◌, length, map, get_or, slice_index, slice_get, Option, Some, None, IsSomeAnd, refl, sym, ap, ◌∙◌, subst, arith}
use Rattle.std.proofs.lemmas.List.{get_or-map, length-map}
use Rattle.once_cell.specs.Once.{cell_name}
use Rattle.once_cell.specs.declared.race.once_box.OnceBox.{OnceBox}
use Rattle.job_graph.specs.Graph.{has}
use Rattle.job_graph.specs.Notes.{known_values, names_of}
use Rattle.job_graph.specs.Table.{AreDefined}
use Rattle.job_graph.specs.declared.notes.CellNote.{CellNote}
use Rattle.job_board.specs.declared.view.Plan.{Plan}
use Rattle.job_board.specs.Rule.{has_job, IsOnce}
use Rattle.job_board.specs.Board.{AreOnce}
use Rattle.job_board.specs.Notes.{IsRight, EachRight}
use Rattle.job_board.proofs.Known.{value_known}

same_lists : (xs ys : List ℕ) → length xs ≡ length ys → ((k : ℕ) → k < length xs → slice_index xs k ≡ slice_index ys k) → xs ≡ ys
same_lists [] [] e h = refl
same_lists [] (y ∷ ys) e h = absurd (omega arith)
same_lists (x ∷ xs) [] e h = absurd (omega arith)
same_lists (x ∷ xs) (y ∷ ys) e h = let a = h 0 (omega arith) in let r = same_lists xs ys (omega arith) (λ k l. h (suc k) (omega arith)) in λ i. a i ∷ r i

some_of : {A : Type 0} (P : A → Type 0) (o : Option A) → IsSomeAnd o P → (x : A) × (o ≡ Some x) × P x
some_of P None h = absurd h
some_of P (Some x) h = (x, refl, h)

got : {A : Type 0} (xs : List A) (k : ℕ) (x d : A) → slice_get xs k ≡ Some x → (k < length xs) × (get_or xs k d ≡ x)
got [] k x d e = absurd (cc)
got (y ∷ ys) zero x d e = (omega arith, cc)
got (y ∷ ys) (suc k) x d e = let r = got ys k x d e in let l = r.0 in (omega arith, r.1)

module _ {T K : Type 0} (defined : K → ℕ → T → Type 0) (p : Plan T K) (n : ℕ) (notes : List (CellNote T)) (each : EachRight defined p n notes) where
  it : (k : ℕ) → k < n → (x : CellNote T) × (k < length notes) × (get_or notes k x ≡ x) × IsRight defined p k (Some x)
  it k l = let s = some_of (λ x. IsRight defined p k (Some x)) (slice_get notes k) (each.each k l) in let r = got notes k s.0 s.0 s.1 in (s.0, r.0, r.1, s.2)

  -- each note is of its job's cell
  pub names_match : (cells : List (OnceBox T)) → p.cells.value.items ≡ cells → length cells ≡ n → names_of notes ≡ map cell_name cells
  names_match cells e m =
      let a = length-map notes (λ (x : CellNote T). x.cell) in let b = length-map cells cell_name in let count = each.count in
      same_lists (names_of notes) (map cell_name cells) (omega arith) (λ k l. let f = it k (omega arith) in
      get_or-map (λ (x : CellNote T). x.cell) notes k f.0 0 f.1 ∙ ap (λ (x : CellNote T). x.cell) f.2 ∙ f.3.0 ∙ ap (λ z. slice_index (map cell_name z) k) e)

  -- and its value is the defined one
  pub all_defined : (key : K) (g : List (List ℕ)) (values : List T) → p.key ≡ key → length g ≡ n → values ≡ known_values notes → AreDefined defined key g values
  all_defined key g values ek en ev =
      let a = length-map notes (λ (x : CellNote T). x.value) in let count = each.count in let len = ap length ev in record {
        count = omega arith;
        each = λ k l. let f = it k (omega arith) in
            subst (λ o. IsSomeAnd o (defined key k)) (sym (ap (λ z. slice_get z k) ev ∙ value_known notes k f.0 f.0.value f.1 (sym f.2) refl)) (subst (λ z. defined z k f.0.value) ek f.3.1);
      }

same_has : (j : ℕ) (cs : List (ℕ × ℕ)) → has_job j cs ≡ has j (map (λ c. c.0) cs)
same_has j [] = refl
same_has j (c ∷ cs) = ap (λ b. (j == c.0) || b) (same_has j cs)

-- no job is claimed twice
pub once_claimed : (cs : List (ℕ × ℕ)) → IsOnce cs → AreOnce (map (λ c. c.0) cs)
once_claimed [] h = tt
once_claimed (c ∷ cs) h = (sym (same_has c.0 cs) ∙ h.0, once_claimed cs h.1)
