-- What placed cells keep, by the table of what they leave.
use Rattle.std.specs.Prelude.{◌≡◌, ℕ, false, List, Option, Some}
use Rattle.geo_base.specs.Motions.{moved_square}
use Rattle.geo_base.specs.declared.shapes.Rect.{Rect}
use Rattle.geo_base.specs.declared.shapes.Square.{Square}
use Rattle.rect_sets.specs.Rects.{covers}
use Rattle.cell_graph.specs.declared.cells.Place.{Place}
use Rattle.cell_graph.specs.Grown.{IsInGrown}
use Rattle.cell_graph.specs.Linked.{Linked, IsStep, hull_of, cell_at, motion_at}
use Rattle.deep_tables.specs.declared.zones.CellZones.{CellZones}
use Rattle.deep_tables.specs.declared.zones.ZoneKey.TheVariants.{Layer}
use Rattle.deep_tables.specs.Zones.{zone_of}
use Rattle.layer_phase.specs.Around.{around}

-- a cell's entry for a name
abbrev pub IsZoneAt : List (Option CellZones) → ℕ → ℕ → List Rect → Type 0
IsZoneAt z cell name zone = zone_of z cell (Layer name) ≡ Some zone

abbrev pub HasEntry : List (Option CellZones) → ℕ → ℕ → Type 0
HasEntry z cell name = (zone : List Rect) × IsZoneAt z cell name zone

-- and those of all cells that the cell places
abbrev pub HaveEntries : Linked → List (Option CellZones) → ℕ → ℕ → Type 0
HaveEntries d z cell name = (i row column : ℕ) (p : Place) → IsStep d cell i row column p
    → HasEntry z p.cell name

-- a square of a placed cell's hull, grown by n, comes to q, within n of which the cell leaves
-- nothing
pub record IsKeptBy (n : ℕ) (d : Linked) (z : List (Option CellZones)) (cell name : ℕ)
    (q : Square) : Type 0 where
  pub index : ℕ
  pub row : ℕ
  pub column : ℕ
  pub from : Place
  pub step : IsStep d cell index row column from
  pub square : Square
  pub held : IsInGrown n (hull_of (cell_at d from.cell)) square
  pub entry : List Rect
  pub at : IsZoneAt z from.cell name entry
  pub off : covers (around n entry) square ≡ false
  pub image : moved_square (motion_at from row column) square ≡ q
