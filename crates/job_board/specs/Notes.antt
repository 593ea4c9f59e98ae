-- What a note in a slot of the board says.
use Rattle.std.specs.Prelude.{◌≡◌, ◌≢◌, ◌⊎◌, ◌+◌, ◌++◌, ℕ, List, [], ◌∷◌, ◌<◌, length, slice_get}
use Rattle.std.specs.Prelude.{IsSomeAnd, map, slice_index, Option, Some, None}
use Rattle.once_cell.specs.Once.{cell_name}
use Rattle.job_graph.specs.declared.notes.CellNote.{CellNote}
use Rattle.job_board.specs.declared.view.Plan.{Plan}

module _ {T K : Type 0} where
  -- the name of a job's cell
  abbrev pub cell_of : Plan T K → ℕ → ℕ
  cell_of p i = slice_index (map cell_name p.cells.value.items) i

  -- the note is of the job's cell, and knows the defined value
  abbrev pub IsRight : (K → ℕ → T → Type 0) → Plan T K → ℕ → Option (CellNote T) → Type 0
  IsRight defined p i None = ⊥
  IsRight defined p i (Some n) = (n.cell ≡ cell_of p i) × defined p.key i n.value

  -- a right note of each of these jobs
  abbrev pub AreNotes : (K → ℕ → T → Type 0) → Plan T K → List ℕ → List (CellNote T) → Type 0
  AreNotes defined p [] [] = Unit {0}
  AreNotes defined p (i ∷ is) (n ∷ ns) = IsRight defined p i (Some n) × AreNotes defined p is ns
  AreNotes defined p (i ∷ is) [] = ⊥
  AreNotes defined p [] (n ∷ ns) = ⊥

  -- one right note for each job
  pub record EachRight (defined : K → ℕ → T → Type 0) (p : Plan T K) (jobs : ℕ)
      (notes : List (CellNote T)) : Type 0 where
    pub count : length notes ≡ jobs
    pub each :
        (k : ℕ) → k < jobs → IsSomeAnd (slice_get notes k) (λ n. IsRight defined p k (Some n))

-- the note that was found goes behind the others, where the slot is the next one asked for
abbrev pub KeptOwn : {T : Type 0} → Option (CellNote T) → ℕ → List ℕ → ℕ → ℕ → List (CellNote T)
    → List (CellNote T) → Type 0
KeptOwn {T} found slot own a b xs ys =
    ((n : CellNote T) × (found ≡ Some n) × (a < length own) × (slice_index own a ≡ slot)
    × (b ≡ a + 1) × (ys ≡ xs ++ n ∷ []))
    ⊎ ((a < length own → slice_index own a ≢ slot) × (b ≡ a) × (ys ≡ xs))
