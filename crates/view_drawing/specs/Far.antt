-- What of a cell's circuit reaches 2^30 or more from the origin, so that it can't be drawn.
use Rattle.std.specs.Prelude.{◌≡◌, ◌⊎◌, ℕ, true, List, Option, Some, slice_get}
use Rattle.cell_graph.specs.Linked.{cell_at, hull_of, plain}
use Rattle.deep_tables.specs.Entries.{entry}
use Rattle.deep_tables.specs.declared.circuits.CellCircuit.{CellCircuit}
use Rattle.deep_tables.specs.declared.gates.Gate.{Gate}
use Rattle.flat_layout.specs.Layout.{Place, IsPlaced, Some_of}
use Rattle.flat_layout.specs.Nets.{Tables}
use Rattle.geo_base.specs.declared.motion.Motion.{Motion}
use Rattle.geo_base.specs.declared.shapes.Point.{Point}
use Rattle.geo_base.specs.declared.shapes.Rect.{Rect}
use Rattle.net_walk.specs.declared.cells.Element.{Element}
use Rattle.view_shapes.specs.ReadLaws.{Called}
use Rattle.view_netlist.specs.Drawing.{IsSmallPoint, IsSmallShift}
use Rattle.view_shapes.specs.Shown.{ShowsFar}
use Rattle.view_words.specs.Numbers.{IsSmallRect}
use Rattle.view_drawing.specs.Calls.{has_circuit}
use Rattle.view_drawing.specs.Devices.{corner_of, is_good, seen_from}
use Rattle.view_drawing.specs.Drawn.{drawn_in, items_in}
use Rattle.view_drawing.specs.declared.source.Source.{Source}

abbrev pub IsFar : Rect → Type 0
IsFar r = IsSmallRect r → ⊥

abbrev pub IsFarPoint : Point → Type 0
IsFarPoint p = IsSmallPoint p → ⊥

abbrev pub IsFarShift : Motion → Type 0
IsFarShift m = IsSmallShift m → ⊥

abbrev pub IsFarHull : Option Rect → Type 0
IsFarHull hull = (r : Rect) × (hull ≡ Some r) × IsFar r

-- the rectangle, or what is seen of it from the corner
abbrev pub IsFarFrom : Point → Rect → Type 0
IsFarFrom p r = IsFar r ⊎ IsFar (seen_from p r)

-- a device of these rectangles that stands at this corner: the corner, or one of the rectangles
abbrev pub IsFarArea : Point → List Rect → Type 0
IsFarArea p rects = IsFarPoint p ⊎ Some_of (IsFarFrom p) rects

abbrev pub IsFarGate : Gate → Type 0
IsFarGate g = (is_good g.state ≡ true) × IsFarArea (corner_of g.least) g.area

abbrev pub HasFarGate : List Gate → Type 0
HasFarGate gates = Some_of IsFarGate gates

abbrev pub IsFarCall : List (Option CellCircuit) → Element → Type 0
IsFarCall table e = (has_circuit table e.cell ≡ true) × IsFarShift e.motion

abbrev pub HasFarCall : List (Option CellCircuit) → List Element → Type 0
HasFarCall table elements = (k : ℕ) × (e : Element) × (slice_get elements k ≡ Some e)
    × IsFarCall table e

-- the cell's hull, a rectangle that its drawn nets show, the device of a good gate, or the placement
-- of a cell with a circuit
pub data ReachesFar (s : Source) (t : Tables) (called : Called) (cell : ℕ) : Type 0 where
  Hull : IsFarHull (hull_of (cell_at s.design.now cell)) → ReachesFar s t called cell
  Net : ShowsFar (plain s.design.now) t called cell (drawn_in s.circuits.now cell)
      → ReachesFar s t called cell
  Device : HasFarGate (items_in (entry s.gates.now cell)) → ReachesFar s t called cell
  Call : (k : ℕ) (p : Place) → IsPlaced (plain s.design.now) cell k p
      → has_circuit s.circuits.now p.cell ≡ true → IsFarShift p.motion
      → ReachesFar s t called cell
