-- The gates of a cell's own for a device rule, with their shapes.
use Rattle.std.specs.Prelude.{◌≡◌, ◌⊎◌, ◌↔◌, ℕ, ◌<◌, ◌^◌, pos, ◌+ℤ◌, true, false, Bool, List, []}
use Rattle.std.specs.Prelude.{◌∷◌, ◌++◌, Option, Some, None}
use Rattle.std.specs.Prelude.{slice_get}
use Rattle.geo_base.specs.Near.{IsWithin}
use Rattle.geo_base.specs.declared.shapes.Rect.{Rect}
use Rattle.geo_base.specs.declared.shapes.Square.{Square}
use Rattle.flat_layout.specs.Gates.{Geometry, Rule, InGate, IsGateBelow, IsLeast, IsListedGate}
use Rattle.flat_layout.specs.Gates.{IsSettled, form_of, gate_reach, geometry, sheets}
use Rattle.flat_layout.specs.Layers.{IsKept}
use Rattle.flat_layout.specs.Layout.{Design}
use Rattle.flat_layout.specs.Plane.{IsSquareBefore}
use Rattle.flat_layout.specs.Regions.{Wiring}
use Rattle.cell_graph.specs.Grown.{IsInGrown}
use Rattle.cell_graph.specs.Linked.{Linked, cell_at, hull_of}
use Rattle.rule_text.specs.Rules.{Rules}
use Rattle.rule_layers.specs.Meaning.{device_rules, wiring_of}
use Rattle.deep_tables.specs.declared.zones.CellZones.{CellZones}
use Rattle.gate_search.specs.SearchLaws.{IsTold}
use Rattle.gate_shapes.specs.Sets.{in_set}
use Rattle.gate_shapes.specs.Shapes.{IsShapeBy}
use Rattle.gate_phase.specs.Below.{IsFreeElement}
use Rattle.gate_phase.specs.Close.{HasMine, MissesOpen}
use Rattle.gate_phase.specs.declared.own.OwnGate.{OwnGate}

-- a square that is near enough for a window
pub record IsUnitNear (s : Square) : Type 0 where
  pub x : IsWithin (2 ^ 38) s.x
  pub y : IsWithin (2 ^ 38) s.y

abbrev pub unit_window : Square → Rect
unit_window s = record { x1 = s.x; y1 = s.y; x2 = s.x +ℤ pos 1; y2 = s.y +ℤ pos 1 }

-- the cell leaves nothing within n of what is close, and others can't make all of the part
pub record IsKeptPart (n : ℕ) (z : List (Option CellZones)) (cell device : ℕ)
    (part close : List Rect) : Type 0 where
  pub calm : MissesOpen n z cell device close
  pub mine : HasMine z cell device (in_set part)

-- the part is kept, and through no element is all of it free
pub record TellsOwn (n : ℕ) (d : Linked) (z : List (Option CellZones)) (cell device : ℕ)
    (part close : List Rect) (least : Square) (told : Bool) : Type 0 where
  pub kept : told ≡ true → IsKeptPart n z cell device part close
  pub new : told ≡ true → IsFreeElement n d z cell device part close (unit_window least) → ⊥
  pub below : told ≡ false → IsKeptPart n z cell device part close
      → IsFreeElement n d z cell device part close (unit_window least)

-- the hull, grown by n, holds the part
abbrev pub IsHeldPart : ℕ → Linked → ℕ → List Rect → Type 0
IsHeldPart n d cell part = (q : Square) → in_set part q → IsInGrown n (hull_of (cell_at d cell)) q

-- the rule of this number reaches so far
abbrev pub IsRuleReach : Rules → ℕ → ℕ → Type 0
IsRuleReach r device n = (u : Rule) → slice_get (device_rules r) device ≡ Some u
    → gate_reach (wiring_of r) u ≡ n

-- a gate of the cell's own, by its least square, with its shape
pub record IsOwnGate (d : Design) (w : Wiring) (u : Rule) (cell : ℕ) (x : OwnGate) : Type 0 where
  pub listed : IsListedGate d (geometry w u) cell x.least
  pub least : IsLeast (InGate d (geometry w u) cell x.least) x.least
  pub area : (q : Square) → in_set x.area q ↔ InGate d (geometry w u) cell x.least q
  pub shape : IsShapeBy (form_of u.kind) (sheets d w u cell) (InGate d (geometry w u) cell x.least)
      x.shape

-- each gate of the cell's own, once, in order of their least squares; and of each settled gate it
-- is known whether it is one of these or comes from below
pub record AreOwnGates (d : Design) (w : Wiring) (u : Rule) (cell : ℕ) (v : List OwnGate) : Type 0
  where
    pub each : (i : ℕ) (x : OwnGate) → slice_get v i ≡ Some x → IsOwnGate d w u cell x
    pub found : (s : Square) → IsListedGate d (geometry w u) cell s → (i : ℕ) × (x : OwnGate)
        × (slice_get v i ≡ Some x) × in_set x.area s
    pub rising : (i j : ℕ) (x y : OwnGate) → i < j → slice_get v i ≡ Some x → slice_get v j ≡ Some y
        → IsSquareBefore x.least y.least
    pub parted : (s : Square) → IsSettled d (geometry w u) cell s
        → IsListedGate d (geometry w u) cell s ⊎ IsGateBelow d (geometry w u) cell s

-- what is kept of a part, and what is told of each of its squares
pub record IsToldPart (d : Design) (g : Geometry) (cell : ℕ) (part : List Rect) : Type 0 where
  pub kept : (q : Square) → in_set part q → IsKept d cell g.region q
  pub told : (q : Square) → in_set part q → IsTold d g cell part q

-- the part is a gate of the cell's own, or, where it is a settled gate, it comes from below
abbrev pub IsOwnOr : Design → Wiring → Rule → ℕ → List Rect → Square → Option OwnGate → Type 0
IsOwnOr d w u cell part least None =
    IsSettled d (geometry w u) cell least → IsGateBelow d (geometry w u) cell least
IsOwnOr d w u cell part least (Some x) =
    (x.least ≡ least) × ((x.area ≡ part) × IsOwnGate d w u cell x)

abbrev pub gates_in : Option OwnGate → List OwnGate
gates_in None = []
gates_in (Some x) = x ∷ []

-- with the gate that the part is, where it is one
pub record AddsPart (d : Design) (w : Wiring) (u : Rule) (cell : ℕ) (part : List Rect)
    (old new : List OwnGate) : Type 0 where
  pub gate : Option OwnGate
  pub added : new ≡ old ++ gates_in gate
  pub right : (s : Square) → IsLeast (in_set part) s → IsOwnOr d w u cell part s gate
