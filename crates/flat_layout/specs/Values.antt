-- What each phase fills in for a cell: over the tables of the phases before it, and without a word
-- of other values of its own phase. The nets of a cell are said in Nets, its gates in GateTables,
-- its pins in Pins.
use Rattle.std.specs.Prelude.{◌≡◌, ◌⊎◌, ◌↔◌, ℕ, Bool, true, false, List}
use Rattle.std.specs.Prelude.{Option, Some, None}
use Rattle.geo_base.specs.declared.layer.LayerKey.{LayerKey}
use Rattle.geo_base.specs.declared.shapes.Rect.{Rect}
use Rattle.geo_base.specs.declared.shapes.Square.{Square}
use Rattle.rect_sets.specs.Rects.{covers, IsCanonical}
use Rattle.flat_layout.specs.Circuits.{AreDrawn, CircuitParts, IsCircuitCell, IsCircuitOf}
use Rattle.flat_layout.specs.Gates.{Rule}
use Rattle.flat_layout.specs.GateTables.{GateEntry}
use Rattle.flat_layout.specs.Hull.{IsInHull}
use Rattle.flat_layout.specs.Layers.{Formula, IsKept, IsKeptBelow, IsLocal, IsLone, IsShut}
use Rattle.flat_layout.specs.Layout.{Design, Place, IsDisturbed, IsPlaced}
use Rattle.flat_layout.specs.Nets.{Tables, IsUnder}
use Rattle.flat_layout.specs.Pins.{CellPins}
use Rattle.plain_netlist.specs.Lists.{IsListed}
use Rattle.plain_netlist.specs.Netlist.{Circuit}

-- the disturbed squares of a cell for some layers, in its hull grown by n
pub record IsZone (d : Design) (keys : List LayerKey) (n cell : ℕ) (v : List Rect) : Type 0 where
  pub canonical : IsCanonical v
  pub each : (q : Square) → (covers v q ≡ true) ↔ (IsDisturbed d keys cell q × IsInHull d cell n q)

-- squares of the hull grown by n that aren't shut for some layers: outside of them all is
pub record IsOpenZone (d : Design) (keys : List LayerKey) (n cell : ℕ) (v : List Rect) : Type 0 where
  pub canonical : IsCanonical v
  pub inside : (q : Square) → covers v q ≡ true → IsInHull d cell n q × (IsShut d keys cell q → ⊥)
  pub shut : (q : Square) → IsInHull d cell n q → covers v q ≡ false → IsShut d keys cell q

-- in that hull, the squares that others may make of a name without the cell
pub record IsLoneZone (d : Design) (name : Formula) (n cell : ℕ) (v : List Rect) : Type 0 where
  pub canonical : IsCanonical v
  pub each : (q : Square) → IsInHull d cell n q → (covers v q ≡ true) ↔ IsLone d cell name q

-- the squares that a cell itself holds of a name; and of each kept square it is known whether it is
-- one of these or comes from below
pub record IsLocalLayer (d : Design) (name : Formula) (cell : ℕ) (v : List Rect) : Type 0 where
  pub canonical : IsCanonical v
  pub each : (q : Square) → (covers v q ≡ true) ↔ IsLocal d cell name q
  pub parted : (q : Square) → IsKept d cell name q → IsLocal d cell name q
      ⊎ IsKeptBelow d cell name q

-- the drawn nets are right in each cell below this one
abbrev pub AreDrawnBelow : Design → Tables → (ℕ → List GateEntry) → (ℕ → CellPins) → (ℕ → List Bool)
    → ℕ → Type 0
AreDrawnBelow d t gates pins drawn cell = (k e : ℕ) (p : Place) → IsPlaced d cell k p
    → IsUnder d p.cell e → AreDrawn d t gates pins drawn e (drawn e)

-- the drawn nets of a cell: they are right over all that are right below
abbrev pub AreDrawnOf : Design → Tables → (ℕ → List GateEntry) → (ℕ → CellPins) → ℕ → List Bool
    → Type 0
AreDrawnOf d t gates pins cell v = (drawn : ℕ → List Bool) → AreDrawnBelow d t gates pins drawn cell
    → AreDrawn d t gates pins drawn cell v

-- of a cell, its drawn nets, and its circuit where it has one
pub record CellCircuit : Type 0 where
  pub drawn : List Bool
  pub circuit : Option Circuit

-- the cell's circuit under its number, or none
abbrev pub IsCircuitOr : Design → Tables → (ℕ → List GateEntry) → (ℕ → CellPins) → (ℕ → List Bool)
    → List Rule → ℕ → List ℕ → ℕ → Option Circuit → Type 0
IsCircuitOr d t gates pins drawn rules unit cells cell None = IsListed cell cells → ⊥
IsCircuitOr d t gates pins drawn rules unit cells cell (Some c) = (n : ℕ)
    × IsCircuitCell cells n cell × (parts : CircuitParts)
    × IsCircuitOf d t gates pins drawn rules unit cells n cell parts c

-- the drawn nets and the circuit of a cell, where these cells have circuits: right over all drawn
-- nets that are right below and its own
pub record IsCellCircuitOf (d : Design) (t : Tables) (gates : ℕ → List GateEntry)
    (pins : ℕ → CellPins) (rules : List Rule) (unit : ℕ) (cells : List ℕ) (cell : ℕ)
    (v : CellCircuit) : Type 0 where
  pub are_drawn : AreDrawnOf d t gates pins cell v.drawn
  pub is_circuit : (drawn : ℕ → List Bool) → AreDrawnBelow d t gates pins drawn cell
      → drawn cell ≡ v.drawn → IsCircuitOr d t gates pins drawn rules unit cells cell v.circuit
