-- Arrays of placements and windows.
use Rattle.std.specs.Prelude.{◌≡◌, ℕ, ◌<◌, ◌^◌, ℤ, pos, ◌+ℤ◌, ◌*ℤ◌, ◌<ℤ◌}
use Rattle.std.specs.Prelude.{true, false, ◌&&◌, Option, Some, None}
use Rattle.geo_base.specs.Near.{IsWithin}
use Rattle.geo_base.specs.Rects.{IsRect, has, IsInside}
use Rattle.geo_base.specs.Motions.{moved_square}
use Rattle.geo_base.specs.declared.motion.Motion.{Motion}
use Rattle.geo_base.specs.declared.shapes.Rect.{Rect}
use Rattle.geo_base.specs.declared.shapes.Square.{Square}
use Rattle.cell_graph.specs.declared.cells.Place.{Place}
use Rattle.cell_graph.specs.Linked.{motion_at}
use Rattle.cell_context.specs.declared.arrays.Reach.{Reach}

-- the reference is of one placement
abbrev pub IsAlone : Place → Type 0
IsAlone p = (p.rows ≡ 1) × (p.columns ≡ 1)

-- the shifts of an array's elements are near
pub record IsNearArray (p : Place) : Type 0 where
  pub dx : IsWithin (2 ^ 39) p.motion.dx
  pub dy : IsWithin (2 ^ 39) p.motion.dy
  pub column_x : (column : ℕ) → column < p.columns
      → IsWithin (2 ^ 38) (pos column *ℤ p.column_step.x)
  pub column_y : (column : ℕ) → column < p.columns
      → IsWithin (2 ^ 38) (pos column *ℤ p.column_step.y)
  pub row_x : (row : ℕ) → row < p.rows → IsWithin (2 ^ 38) (pos row *ℤ p.row_step.x)
  pub row_y : (row : ℕ) → row < p.rows → IsWithin (2 ^ 38) (pos row *ℤ p.row_step.y)

-- the same of an array that a design holds: twice as many columns are near still
pub record IsCloseArray (p : Place) : Type 0 where
  pub dx : IsWithin (2 ^ 36) p.motion.dx
  pub dy : IsWithin (2 ^ 36) p.motion.dy
  pub column_x : (column : ℕ) → column < p.columns
      → IsWithin (2 ^ 37) (pos column *ℤ p.column_step.x)
  pub column_y : (column : ℕ) → column < p.columns
      → IsWithin (2 ^ 37) (pos column *ℤ p.column_step.y)
  pub row_x : (row : ℕ) → row < p.rows → IsWithin (2 ^ 37) (pos row *ℤ p.row_step.x)
  pub row_y : (row : ℕ) → row < p.rows → IsWithin (2 ^ 37) (pos row *ℤ p.row_step.y)

-- the common part of two rectangles, where there is one
pub record IsPart (a b r : Rect) : Type 0 where
  pub some : IsRect r
  pub first : IsInside r a
  pub second : IsInside r b
  pub has : (q : Square) → has r q ≡ (has a q && has b q)

abbrev pub IsMeet : Rect → Rect → Option Rect → Type 0
IsMeet a b None = (q : Square) → (has a q && has b q) ≡ false
IsMeet a b (Some r) = IsPart a b r

abbrev pub turn_of : Place → Motion
turn_of p = record { turn = p.motion.turn; dx = pos 0; dy = pos 0 }

-- the shift of an element
abbrev pub shift_x : Place → ℕ → ℕ → ℤ
shift_x p row column = (p.motion.dx +ℤ (pos column *ℤ p.column_step.x)) +ℤ (pos row *ℤ p.row_step.x)

abbrev pub shift_y : Place → ℕ → ℕ → ℤ
shift_y p row column = (p.motion.dy +ℤ (pos column *ℤ p.column_step.y)) +ℤ (pos row *ℤ p.row_step.y)

abbrev pub IsBetween : ℤ → ℤ → ℤ → Type 0
IsBetween low z high = (low <ℤ z) × (z <ℤ high)

-- the shift lies between the numbers, in both directions
pub record MayMeet (r : Reach) (p : Place) (row column : ℕ) : Type 0 where
  pub x_low : r.x_low <ℤ shift_x p row column
  pub x_high : shift_x p row column <ℤ r.x_high
  pub y_low : r.y_low <ℤ shift_y p row column
  pub y_high : shift_y p row column <ℤ r.y_high

pub record IsNearReach (r : Reach) : Type 0 where
  pub x_low : IsWithin (2 ^ 41) r.x_low
  pub x_high : IsWithin (2 ^ 41) r.x_high
  pub y_low : IsWithin (2 ^ 41) r.y_low
  pub y_high : IsWithin (2 ^ 41) r.y_high

-- each element whose image of the hull shares a square with the window has its shift between the
-- numbers
pub record IsReach (p : Place) (hull window : Rect) (r : Reach) : Type 0 where
  pub near : IsNearReach r
  pub all : (row column : ℕ) (q : Square) → has hull q ≡ true
      → has window (moved_square (motion_at p row column) q) ≡ true → MayMeet r p row column
