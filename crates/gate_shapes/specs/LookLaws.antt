-- From lists of rectangles to the gates of a cell.
use Rattle.std.specs.Prelude.{◌≡◌, ◌↔◌, ℕ, Bool, true, None, List}
use Rattle.geo_base.specs.declared.shapes.Rect.{Rect}
use Rattle.geo_base.specs.declared.shapes.Square.{Square}
use Rattle.flat_layout.specs.Gates.{Rule, InGate, IsGateOrRing, geometry, anode_ground, ground}
use Rattle.flat_layout.specs.Gates.{gate_sheet, sheets}
use Rattle.flat_layout.specs.Layers.{Formula, InFlat}
use Rattle.flat_layout.specs.Layout.{Design}
use Rattle.flat_layout.specs.Regions.{Wiring, formula}
use Rattle.gate_shapes.specs.Sets.{in_set}
use Rattle.gate_shapes.specs.Shapes.{sheets_of, sheets_alone, IsShape, IsShapeAlone}
use Rattle.gate_shapes.specs.declared.shape.GateShape.{GateShape}

-- at the gate and its ring the list covers the flat squares of the name
abbrev pub IsExactNear : Design → Wiring → Rule → ℕ → Square → List Rect → Formula → Type 0
IsExactNear d w u cell s rects name =
    (q : Square) → IsGateOrRing d (geometry w u) cell s q → in_set rects q ↔ InFlat d cell name q

-- at the gate alone
abbrev pub IsExactOn : Design → Wiring → Rule → ℕ → Square → List Rect → (Square → Type 0) → Type 0
IsExactOn d w u cell s rects set =
    (q : Square) → InGate d (geometry w u) cell s q → in_set rects q ↔ set q

-- the lists are those of a gate
pub record AreAround (d : Design) (w : Wiring) (u : Rule) (cell : ℕ) (s : Square)
    (part ends on_ends on_gate on_bulk : List Rect) (loose : Bool) : Type 0 where
  pub part_is : (q : Square) → in_set part q ↔ InGate d (geometry w u) cell s q
  pub ends_are : IsExactNear d w u cell s ends u.sd
  pub on_ends_are : IsExactNear d w u cell s on_ends (formula w u.ts)
  pub on_gate_are : IsExactOn d w u cell s on_gate
      (gate_sheet u.kind (InFlat d cell (formula w u.tg)))
  pub on_bulk_are : IsExactNear d w u cell s on_bulk (formula w u.tb)
  pub loose_is : (loose ≡ true) ↔ (ground w u ≡ None)

-- what is found of the lists holds of the gate
abbrev pub LookLaw : Type 0
LookLaw = (d : Design) (w : Wiring) (u : Rule) (cell : ℕ) (s : Square)
    (part ends on_ends on_gate on_bulk : List Rect) (loose : Bool) (shape : GateShape)
    → AreAround d w u cell s part ends on_ends on_gate on_bulk loose
    → IsShape (sheets_of ends on_ends on_gate on_bulk loose) (in_set part) shape
    → IsShape (sheets d w u cell) (InGate d (geometry w u) cell s) shape

-- the lists are those of a region alone
pub record AreAlone (d : Design) (w : Wiring) (u : Rule) (cell : ℕ) (s : Square)
    (part on_ends on_bulk : List Rect) (free loose : Bool) : Type 0 where
  pub part_is : (q : Square) → in_set part q ↔ InGate d (geometry w u) cell s q
  pub on_ends_are : IsExactOn d w u cell s on_ends (InFlat d cell (formula w u.ts))
  pub on_bulk_are : IsExactOn d w u cell s on_bulk (InFlat d cell (formula w u.tb))
  pub free_is : (free ≡ true) ↔ (anode_ground w u ≡ None)
  pub loose_is : (loose ≡ true) ↔ (ground w u ≡ None)

abbrev pub LookAloneLaw : Type 0
LookAloneLaw = (d : Design) (w : Wiring) (u : Rule) (cell : ℕ) (s : Square)
    (part on_ends on_bulk : List Rect) (free loose : Bool) (shape : GateShape)
    → AreAlone d w u cell s part on_ends on_bulk free loose
    → IsShapeAlone (sheets_alone on_ends on_bulk free loose) (in_set part) shape
    → IsShapeAlone (sheets d w u cell) (InGate d (geometry w u) cell s) shape
