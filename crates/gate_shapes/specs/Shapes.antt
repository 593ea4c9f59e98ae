-- A part judged as a gate between two groups, or as a device alone.
use Rattle.std.specs.Prelude.{◌≡◌, ◌⊎◌, ℕ, ◌<◌, Bool, true, false, List, Option, Some, None}
use Rattle.std.specs.Prelude.{slice_get}
use Rattle.geo_base.specs.declared.shapes.Rect.{Rect}
use Rattle.geo_base.specs.declared.shapes.Square.{Square}
use Rattle.flat_layout.specs.Parts.{Edge, InGroupOf, Sheets, AllOn, SomeOff, IsGoodPart}
use Rattle.flat_layout.specs.Parts.{IsBadPart}
use Rattle.flat_layout.specs.Parts.{IsLeast, IsGoodArea, IsBadArea, Form, Beside, Alone}
use Rattle.flat_layout.specs.Plane.{IsSquareBefore}
use Rattle.gate_shapes.specs.Sets.{in_set}
use Rattle.gate_shapes.specs.declared.shape.GateForm.{GateForm}
use Rattle.gate_shapes.specs.declared.shape.GateShape.{GateShape}
use Rattle.gate_shapes.specs.declared.shape.GateShape.TheVariants.{Good, Bad}
use Rattle.flat_layout.specs.declared.cause.GateCause.{GateCause}
use Rattle.flat_layout.specs.declared.cause.GateCause.TheVariants.{Groups, OffGate, OffSd}
use Rattle.flat_layout.specs.declared.cause.GateCause.TheVariants.{NoBulk, NoLength}

-- whether each square of the one set lies in the other
pub record TellsOn (set other : List Rect) (told : Bool) : Type 0 where
  pub yes : told ≡ true → AllOn (in_set set) (in_set other)
  pub no : told ≡ false → SomeOff (in_set set) (in_set other)

-- the same where it is asked for: whether some square lies outside, where none may
pub record TellsOff (asked : Bool) (set other : List Rect) (told : Bool) : Type 0 where
  pub yes : told ≡ true → (asked ≡ true) × SomeOff (in_set set) (in_set other)
  pub no : told ≡ false → asked ≡ true → AllOn (in_set set) (in_set other)

-- a square of both
abbrev pub Meet : List Rect → List Rect → Type 0
Meet set other = (q : Square) × in_set set q × in_set other q

pub record TellsMeet (set other : List Rect) (told : Bool) : Type 0 where
  pub yes : told ≡ true → Meet set other
  pub no : told ≡ false → Meet set other → ⊥

-- no square of both
abbrev pub MissEachOther : List Rect → List Rect → Type 0
MissEachOther set other = (q : Square) → in_set set q → in_set other q → ⊥

-- the places of the groups that meet a set, in order
pub record AreKept (groups : List (List Rect)) (touched : List Rect) (kept : List ℕ) : Type 0 where
  pub each : (a i : ℕ) → slice_get kept a ≡ Some i → (group : List Rect)
      × (slice_get groups i ≡ Some group) × Meet group touched
  pub found : (i : ℕ) (group : List Rect) → slice_get groups i ≡ Some group → Meet group touched
      → (a : ℕ) × (slice_get kept a ≡ Some i)
  pub rising : (a b i j : ℕ) → a < b → slice_get kept a ≡ Some i → slice_get kept b ≡ Some j → i < j

-- the sets by which a part with groups is judged: its ends have no global
abbrev pub sheets_of : List Rect → List Rect → List Rect → List Rect → Bool → Sheets
sheets_of ends on_ends on_gate on_bulk loose =
    record {
      ends = in_set ends;
      on_ends = in_set on_ends;
      on_gate = in_set on_gate;
      on_bulk =
          in_set on_bulk;
      free = Unit {0};
      loose = loose ≡ true;
    }

-- those by which a part is judged alone: there are no groups, and no gate
abbrev pub sheets_alone : List Rect → List Rect → Bool → Bool → Sheets
sheets_alone on_ends on_bulk free loose =
    record {
      ends = λ q. ⊥;
      on_ends = in_set on_ends;
      on_gate = λ q. Unit {0};
      on_bulk =
          in_set on_bulk;
      free = free ≡ true;
      loose = loose ≡ true;
    }

-- the first fault of a part with these two groups, if it has one
abbrev pub IsFirstFault : Sheets → List Rect → List Rect → List Rect → ℕ → Option GateCause → Type 0
IsFirstFault g part source drain long None = AllOn (in_set part) g.on_gate
    × (AllOn (in_set source) g.on_ends × AllOn (in_set drain) g.on_ends)
    × (g.loose → AllOn (in_set part) g.on_bulk) × (0 < long)
IsFirstFault g part source drain long (Some (Groups n)) = ⊥
IsFirstFault g part source drain long (Some OffGate) = SomeOff (in_set part) g.on_gate
IsFirstFault g part source drain long (Some OffSd) = AllOn (in_set part) g.on_gate
    × (SomeOff (in_set source) g.on_ends ⊎ SomeOff (in_set drain) g.on_ends)
IsFirstFault g part source drain long (Some NoBulk) = AllOn (in_set part) g.on_gate
    × (AllOn (in_set source) g.on_ends × AllOn (in_set drain) g.on_ends) × g.loose
    × SomeOff (in_set part) g.on_bulk
IsFirstFault g part source drain long (Some NoLength) = AllOn (in_set part) g.on_gate
    × (AllOn (in_set source) g.on_ends × AllOn (in_set drain) g.on_ends)
    × (g.loose → AllOn (in_set part) g.on_bulk) × (long ≡ 0)

-- a good gate with its sizes; the source is the group with the least square
pub record IsGood (g : Sheets) (part : Square → Type 0) (f : GateForm) : Type 0 where
  pub source : Edge
  pub drain : Edge
  pub form : IsGoodPart g part source drain f.twice_w f.twice_l
  pub least_source : IsLeast (InGroupOf part g.ends source.outer) f.source
  pub least_drain : IsLeast (InGroupOf part g.ends drain.outer) f.drain
  pub order : IsSquareBefore f.source f.drain

-- a good gate, or a bad one with its first cause
abbrev pub IsShape : Sheets → (Square → Type 0) → GateShape → Type 0
IsShape g part (Good f) = IsGood g part f
IsShape g part (Bad c) = IsBadPart g part c

-- the same of a part alone: its squares, twice its boundary edges, and its least square at both
-- ends
pub record IsGoodAlone (g : Sheets) (part : Square → Type 0) (f : GateForm) : Type 0 where
  pub form : IsGoodArea g part f.twice_w f.twice_l
  pub least_source : IsLeast part f.source
  pub least_drain : IsLeast part f.drain

abbrev pub IsShapeAlone : Sheets → (Square → Type 0) → GateShape → Type 0
IsShapeAlone g part (Good f) = IsGoodAlone g part f
IsShapeAlone g part (Bad c) = IsBadArea g part c

-- by the form of the device
abbrev pub IsShapeBy : Form → Sheets → (Square → Type 0) → GateShape → Type 0
IsShapeBy Beside g part s = IsShape g part s
IsShapeBy Alone g part s = IsShapeAlone g part s

-- the same of the first n groups
pub record KeptSoFar (groups : List (List Rect)) (touched : List Rect) (n : ℕ)
    (kept : List ℕ) : Type 0 where
  pub each : (a i : ℕ) → slice_get kept a ≡ Some i → (i < n) × (group : List Rect)
      × (slice_get groups i ≡ Some group) × Meet group touched
  pub found : (i : ℕ) (group : List Rect) → i < n → slice_get groups i ≡ Some group
      → Meet group touched → (a : ℕ) × (slice_get kept a ≡ Some i)
  pub rising : (a b i j : ℕ) → a < b → slice_get kept a ≡ Some i → slice_get kept b ≡ Some j → i < j
