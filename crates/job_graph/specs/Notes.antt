-- Notes that know the values of write-once cells.
use Rattle.std.specs.Prelude.{ℕ, List, map}
use Rattle.job_graph.specs.declared.notes.CellNote.{CellNote}

module _ {T : Type 0} where
  -- the names of the notes' cells
  abbrev pub names_of : List (CellNote T) → List ℕ
  names_of notes = map (λ n. n.cell) notes

  -- the values that the notes know, in order
  abbrev pub known_values : List (CellNote T) → List T
  known_values notes = map (λ n. n.value) notes
