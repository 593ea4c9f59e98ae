-- Notes side by side with the jobs that they are of.
use Rattle.std.proofs.Common.{◌≡◌, ℕ, zero, suc, ◌<◌, ◌≤◌, true, List, [], ◌∷◌, length, map, get_or, slice_index, slice_get, Some, IsSomeAnd, refl, sym, ap, ◌∙◌, subst, arith}
use Rattle.std.proofs.lemmas.List.{get_or-map, length-map}
use Rattle.std.proofs.lemmas.Option.{slice_get-get_or}
use Rattle.once_cell.specs.Once.{cell_name}
use Rattle.once_cell.specs.declared.race.once_box.OnceBox.{OnceBox}
use Rattle.job_graph.specs.Graph.{AreAscending, has}
use Rattle.job_graph.specs.Notes.{known_values, names_of}
use Rattle.job_board.specs.Inputs.{value_of}
use Rattle.job_board.proofs.Slots.{place_here, place_else}
use Rattle.std.proofs.Math.Decide.{ℕ_discrete}
use mathlib.Core.Logic.{dite}
use Rattle.job_graph.specs.declared.notes.CellNote.{CellNote}
use Rattle.job_graph.proofs.Inputs.{has_within, item_has, has_else}
use Rattle.job_board.specs.declared.view.Plan.{Plan}
use Rattle.job_board.specs.Notes.{IsRight, AreNotes}

-- the note at a place is right for the job at that place
pub note_at : {T K : Type 0} (defined : K → ℕ → T → Type 0) (p : Plan T K) (is : List ℕ) (ns : List (CellNote T)) (k : ℕ) (d : CellNote T) → AreNotes defined p is ns → k < length is
    → (k < length ns) × IsRight defined p (slice_index is k) (Some (get_or ns k d))
note_at defined p [] ns k d h l = absurd (omega arith)
note_at defined p (i ∷ is) [] k d h l = absurd h
note_at defined p (i ∷ is) (n ∷ ns) zero d h l = (omega arith, h.0)
note_at defined p (i ∷ is) (n ∷ ns) (suc k) d h l = let r = note_at defined p is ns k d h.1 (omega arith) in let s = r.0 in (omega arith, r.1)

-- an input lies below its job
pub item_below : (is : List ℕ) (high k : ℕ) → AreAscending 0 is high → k < length is → slice_index is k < high
item_below is high k a l = (has_within 0 (slice_index is k) is high a (item_has is k 0 l)).1

-- the cell that a right note is of
pub right_cell : {T K : Type 0} (defined : K → ℕ → T → Type 0) (p : Plan T K) (cells : List (OnceBox T)) (i j : ℕ) (n m : CellNote T) (c : OnceBox T) → p.cells.value.items ≡ cells → j < length cells → i ≡ j
    → m ≡ n → IsRight defined p i (Some n) → c ≡ get_or cells j c → m.cell ≡ cell_name c
right_cell {T} defined p cells i j n m c e l s is h at =
    ap (λ (z : CellNote T). z.cell) is ∙ h.0 ∙ ap (λ z. slice_index (map cell_name z) i) e ∙ ap (slice_index (map cell_name cells)) s ∙ get_or-map cell_name cells j c 0 l ∙ ap cell_name (sym at)

-- the value that the note at a place knows
pub value_known : {T : Type 0} (ns : List (CellNote T)) (k : ℕ) (n : CellNote T) (x : T) → k < length ns → n ≡ get_or ns k n → x ≡ n.value → slice_get (known_values ns) k ≡ Some x
value_known {T} ns k n x l is v =
    slice_get-get_or (known_values ns) k x (subst (λ z. k < z) (sym (length-map ns (λ (m : CellNote T). m.value))) l)
    ∙ ap (λ y. Some y) (get_or-map (λ (m : CellNote T). m.value) ns k n x l ∙ ap (λ (m : CellNote T). m.value) (sym is) ∙ sym v)

pub notes_many : {T K : Type 0} (defined : K → ℕ → T → Type 0) (p : Plan T K) (is : List ℕ) (ns : List (CellNote T)) → AreNotes defined p is ns → length ns ≡ length is
notes_many defined p [] [] h = refl
notes_many defined p (i ∷ is) (n ∷ ns) h = ap suc (notes_many defined p is ns h.1)
notes_many defined p (i ∷ is) [] h = absurd h
notes_many defined p [] (n ∷ ns) h = absurd h

-- right notes are of their jobs' cells
pub names_from : {T K : Type 0} (defined : K → ℕ → T → Type 0) (p : Plan T K) (cells : List (OnceBox T)) (is : List ℕ) (ns : List (CellNote T)) → p.cells.value.items ≡ cells → AreNotes defined p is ns
    → names_of ns ≡ map (λ job. slice_index (map cell_name cells) job) is
names_from defined p cells [] [] e h = refl
names_from defined p cells (i ∷ is) (n ∷ ns) e h = let a = h.0.0 ∙ ap (λ z. slice_index (map cell_name z) i) e in let r = names_from defined p cells is ns e h.1 in λ k. a k ∷ r k
names_from defined p cells (i ∷ is) [] e h = absurd h
names_from defined p cells [] (n ∷ ns) e h = absurd h

pub ascending_up : (low : ℕ) (xs : List ℕ) (high more : ℕ) → high ≤ more → AreAscending low xs high → AreAscending low xs more
ascending_up low [] high more l a = tt
ascending_up low (x ∷ xs) high more l a = let b = a.1 in (a.0, omega arith, ascending_up (suc x) xs high more l a.2)

-- and know the defined values
pub read_right : {T K : Type 0} (defined : K → ℕ → T → Type 0) (p : Plan T K) (is : List ℕ) (ns : List (CellNote T)) (i : ℕ) → AreNotes defined p is ns → has i is ≡ true → IsSomeAnd (value_of is ns i) (defined p.key i)
read_right defined p [] ns i h t = absurd (cc)
read_right defined p (j ∷ is) [] i h t = absurd h
read_right defined p (j ∷ is) (n ∷ ns) i h t = dite (ℕ_discrete i j)
    (λ e. subst (λ z. IsSomeAnd (slice_get (known_values (n ∷ ns)) z) (defined p.key i)) (sym (place_here i j is e)) (subst (λ z. defined p.key z n.value) (sym e) h.0.1))
    (λ d. subst (λ z. IsSomeAnd (slice_get (known_values (n ∷ ns)) z) (defined p.key i)) (sym (place_else i j is d)) (read_right defined p is ns i h.1 (sym (has_else i j is d) ∙ t)))
