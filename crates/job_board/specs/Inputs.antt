-- The values of a job's inputs, by notes of the inputs' cells.
use Rattle.std.specs.Prelude.{◌≡◌, ℕ, true, List, map, length, slice_get, slice_index, Option}
use Rattle.once_cell.specs.Once.{cell_name}
use Rattle.once_cell.specs.declared.race.once_box.OnceBox.{OnceBox}
use Rattle.job_graph.specs.Graph.{AreAscending, has}
use Rattle.job_graph.specs.Notes.{known_values, names_of}
use Rattle.job_graph.specs.declared.notes.CellNote.{CellNote}
use Rattle.job_board.specs.Slots.{place}

module _ {T : Type 0} where
  -- there is a note of the cell of each of these jobs, in their order
  pub record AreNoted (cells : List (OnceBox T)) (jobs : List ℕ) (notes : List (CellNote T)) :
      Type 0 where
    pub ascend : AreAscending 0 jobs (length cells)
    pub names : names_of notes ≡ map (λ job. slice_index (map cell_name cells) job) jobs

  -- and this is one of them
  pub record MayRead (cells : List (OnceBox T)) (jobs : List ℕ) (notes : List (CellNote T))
      (input : ℕ) : Type 0 where
    pub noted : AreNoted cells jobs notes
    pub listed : has input jobs ≡ true

  -- the value that its note knows
  abbrev pub value_of : List ℕ → List (CellNote T) → ℕ → Option T
  value_of jobs notes input = slice_get (known_values notes) (place input jobs)
