-- References on their way from names to numbers.
use Rattle.std.specs.Prelude.{◌≡◌, ℕ, List, Some, length, slice_get}
use Rattle.cell_graph.specs.declared.cells.Place.{Place}
use Rattle.cell_graph.specs.declared.drafts.DraftRef.{DraftRef}
use Rattle.cell_graph.specs.declared.drafts.CellDraft.{CellDraft}
use Rattle.cell_graph.specs.Parts.{Part}
use Rattle.cell_graph.specs.Drafts.{IsResolved, AreAllResolved}

-- the reference with the number of its cell
abbrev pub place_of : DraftRef → ℕ → Place
place_of r cell = record {
  cell = cell;
  motion = r.motion;
  columns = r.columns;
  rows =
      r.rows;
  column_step = r.column_step;
  row_step = r.row_step;
}

-- the first n references are resolved
pub record AreResolvedTo (cells : List CellDraft) (refs : List DraftRef) (n : ℕ)
    (places : List Place) : Type 0 where
  pub count : length places ≡ n
  pub each : (k : ℕ) (r : DraftRef) (p : Place) → slice_get refs k ≡ Some r
      → slice_get places k ≡ Some p → IsResolved cells r p

-- the references of the first n cells are resolved
pub record ArePartsTo (cells : List CellDraft) (n : ℕ) (parts : List Part) : Type 0 where
  pub count : length parts ≡ n
  pub each : (i : ℕ) (c : CellDraft) (p : Part) → slice_get cells i ≡ Some c
      → slice_get parts i ≡ Some p → AreAllResolved cells c.refs.items p.items
