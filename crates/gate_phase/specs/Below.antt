-- Whether what is close to a gate is free in a placed cell.
use Rattle.std.specs.Prelude.{◌≡◌, ℕ, ◌+◌, true, List, Option, Some}
use Rattle.geo_base.specs.Motions.{moved_square}
use Rattle.geo_base.specs.Rects.{has}
use Rattle.geo_base.specs.declared.motion.Motion.{Motion}
use Rattle.geo_base.specs.declared.shapes.Rect.{Rect}
use Rattle.geo_base.specs.declared.shapes.Square.{Square}
use Rattle.flat_layout.specs.Plane.{IsReachedBy}
use Rattle.cell_graph.specs.declared.cells.Place.{Place}
use Rattle.cell_graph.specs.Linked.{Linked, IsStep, cell_at, hull_of, motion_at}
use Rattle.deep_tables.specs.Frames.{IsInGrown, grown}
use Rattle.deep_tables.specs.declared.zones.CellZones.{CellZones}
use Rattle.gate_shapes.specs.Sets.{in_set}
use Rattle.gate_phase.specs.Close.{AreOpen, HasMine}

-- all that the motion takes to the squares that are close lies in the frame, and nothing of the
-- zone within n of it
abbrev pub IsFree : ℕ → List Rect → Motion → Rect → List Rect → Type 0
IsFree n close m frame zone = (q : Square) → in_set close (moved_square m q)
    → (has frame q ≡ true) × (IsReachedBy n (in_set zone) q → ⊥)

-- the same of a cell's grown hull and of what the cell leaves for a device rule that reaches so far;
-- and a square of the part others can't make there
pub record IsFreeIn (n : ℕ) (d : Linked) (z : List (Option CellZones)) (device : ℕ)
    (part close : List Rect) (cell : ℕ) (m : Motion) : Type 0 where
  pub hull : Rect
  pub hull_is : hull_of (cell_at d cell) ≡ Some hull
  pub zone : List Rect
  pub zone_is : AreOpen z cell device zone
  pub free : IsFree n close m (grown (n + 1) hull) zone
  pub mine : HasMine z cell device (λ q. in_set part (moved_square m q))

-- and so it is in the cell of an element that takes a square of its grown hull to the start
pub record IsFreeElement (n : ℕ) (d : Linked) (z : List (Option CellZones)) (cell device : ℕ)
    (part close : List Rect) (start : Rect) : Type 0 where
  pub index : ℕ
  pub row : ℕ
  pub column : ℕ
  pub from : Place
  pub step : IsStep d cell index row column from
  pub square : Square
  pub held : IsInGrown n (hull_of (cell_at d from.cell)) square
  pub met : has start (moved_square (motion_at from row column) square) ≡ true
  pub free : IsFreeIn n d z device part close from.cell (motion_at from row column)
