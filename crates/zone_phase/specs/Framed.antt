-- Frames in which a cell's disturbed squares are looked for.
use Rattle.std.specs.Prelude.{◌≡◌, ℕ, ◌<◌, Some, length, slice_get}
use Rattle.cell_graph.specs.declared.cells.Place.{Place}
use Rattle.cell_graph.specs.Linked.{IsFrame, cell_at, hull_of, places_at}
use Rattle.cell_context.specs.Arrays.{IsCloseArray}
use Rattle.zone_phase.specs.declared.frame.Frame.{Frame}

-- the cell has the hull, and the grown one is near
pub record IsFramed (f : Frame) : Type 0 where
  pub hull : hull_of (cell_at f.design.now f.cell) ≡ Some f.hull
  pub grown : IsFrame f.grown

-- an array, near even where it is begun elsewhere, of a cell with the hull
pub record IsFramedArray (f : Frame) (p : Place) : Type 0 where
  pub close : IsCloseArray p
  pub rows : 0 < p.rows
  pub columns : 0 < p.columns
  pub cell : p.cell < length f.design.now.cells
  pub hull : hull_of (cell_at f.design.now p.cell) ≡ Some f.hull
  pub near : IsFrame f.hull

-- a reference of a cell of the design to the frame's cell
pub record IsFramedReference (f : Frame) (parent index : ℕ) (p : Place) : Type 0 where
  pub parent_in : parent < length f.design.now.cells
  pub there : slice_get (places_at (cell_at f.design.now parent)) index ≡ Some p
  pub here : p.cell ≡ f.cell
