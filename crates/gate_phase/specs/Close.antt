-- What is close to a part, what the cell leaves of it, and what others may make without the cell.
use Rattle.std.specs.Prelude.{◌≡◌, ℕ, true, List, Option, Some, slice_get}
use Rattle.rect_sets.specs.Rects.{covers}
use Rattle.geo_base.specs.declared.shapes.Rect.{Rect}
use Rattle.geo_base.specs.declared.shapes.Square.{Square}
use Rattle.flat_layout.specs.Plane.{IsReachedBy}
use Rattle.cell_graph.specs.declared.cells.Place.{Place}
use Rattle.cell_graph.specs.Linked.{Linked, cell_at, places_at}
use Rattle.deep_tables.specs.declared.zones.CellZones.{CellZones}
use Rattle.deep_tables.specs.declared.zones.ZoneKey.TheVariants.{Device}
use Rattle.deep_tables.specs.Zones.{lone_of, zone_of}
use Rattle.gate_shapes.specs.Sets.{in_set}

-- the squares that a cell leaves for a device rule
abbrev pub AreOpen : List (Option CellZones) → ℕ → ℕ → List Rect → Type 0
AreOpen z cell device zone = zone_of z cell (Device device) ≡ Some zone

-- the table has them
abbrev pub HasOpen : List (Option CellZones) → ℕ → ℕ → Type 0
HasOpen z cell device = (zone : List Rect) × AreOpen z cell device zone

-- and of all cells that the cell places
abbrev pub HasOpenBelow : Linked → List (Option CellZones) → ℕ → ℕ → Type 0
HasOpenBelow d z cell device = (i : ℕ) (p : Place)
    → slice_get (places_at (cell_at d cell)) i ≡ Some p → HasOpen z p.cell device

-- no square of the one lies within n of one of the other
abbrev pub AreApart : ℕ → List Rect → List Rect → Type 0
AreApart n set other = (q : Square) → in_set set q → IsReachedBy n (in_set other) q → ⊥

-- the cell leaves nothing within n of what is close
abbrev pub MissesOpen : ℕ → List (Option CellZones) → ℕ → ℕ → List Rect → Type 0
MissesOpen n z cell device close = (zone : List Rect) × AreOpen z cell device zone
    × AreApart n close zone

-- a square of the part that none of the others' has; where these aren't told, any
pub record IsMine (lone : Option (List Rect)) (part : Square → Type 0) : Type 0 where
  pub square : Square
  pub has : part square
  pub alone : (set : List Rect) → lone ≡ Some set → covers set square ≡ true → ⊥

-- and so by the table's entry of a cell for a device rule
abbrev pub HasMine : List (Option CellZones) → ℕ → ℕ → (Square → Type 0) → Type 0
HasMine z cell device part = IsMine (lone_of z cell device) part
