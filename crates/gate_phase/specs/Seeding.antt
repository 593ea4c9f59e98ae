-- Rectangles around which gates are looked for.
use Rattle.std.specs.Prelude.{◌≡◌, ℕ, ◌<◌, true, Bool, List, Option, Some}
use Rattle.geo_base.specs.Motions.{moved_square}
use Rattle.geo_base.specs.Rects.{has}
use Rattle.geo_base.specs.declared.layer.LayerKey.{LayerKey}
use Rattle.geo_base.specs.declared.shapes.Rect.{Rect}
use Rattle.geo_base.specs.declared.shapes.Square.{Square}
use Rattle.rect_sets.specs.Rects.{covers}
use Rattle.cell_graph.specs.declared.cells.Place.{Place}
use Rattle.cell_context.specs.Placed.{Grows}
use Rattle.cell_graph.specs.Linked.{Linked, cell_at, hull_of, motion_at, own_of}
use Rattle.rule_text.specs.declared.rules.LayerRule.{LayerRule}
use Rattle.deep_tables.specs.declared.zones.CellZones.{CellZones}
use Rattle.deep_tables.specs.Frames.{IsInGrown}
use Rattle.deep_tables.specs.Zones.{lone_of}
use Rattle.gate_phase.specs.Close.{AreOpen}
use Rattle.gate_phase.specs.Reads.{IsMarkedInput}

-- an array's images of what the placed cell leaves for a device rule in its hull, grown by n, are
-- covered, where they lie in the plane
abbrev pub BringsOpen : ℕ → Linked → List (Option CellZones) → ℕ → Place → Rect → List Rect → Type 0
BringsOpen n d z device p plane out = (zone : List Rect) (row column : ℕ) (s : Square)
    → AreOpen z p.cell device zone → row < p.rows → column < p.columns
    → IsInGrown n (hull_of (cell_at d p.cell)) s → covers zone s ≡ true
    → has plane (moved_square (motion_at p row column) s) ≡ true
    → covers out (moved_square (motion_at p row column) s) ≡ true

-- and those of what others may make there without the placed cell, where that is told
abbrev pub BringsLone : ℕ → Linked → List (Option CellZones) → ℕ → Place → Rect → List Rect → Type 0
BringsLone n d z device p plane out = (set : List Rect) (row column : ℕ) (s : Square)
    → lone_of z p.cell device ≡ Some set → row < p.rows → column < p.columns
    → IsInGrown n (hull_of (cell_at d p.cell)) s → covers set s ≡ true
    → has plane (moved_square (motion_at p row column) s) ≡ true
    → covers out (moved_square (motion_at p row column) s) ≡ true

-- the cell's own squares on the marked input layers among the first names
abbrev pub BringsOwn : Linked → ℕ → List LayerRule → List Bool → ℕ → List Rect → Type 0
BringsOwn d cell names marks bound out = (i : ℕ) (key : LayerKey) → i < bound
    → IsMarkedInput names marks i key → Grows (own_of (cell_at d cell) key) out
