-- A settled gate as a set, with what is close to it.
use Rattle.std.specs.Prelude.{◌≡◌, ◌↔◌, ℕ, List}
use Rattle.geo_base.specs.declared.shapes.Rect.{Rect}
use Rattle.geo_base.specs.declared.shapes.Square.{Square}
use Rattle.flat_layout.specs.Gates.{Geometry, InGate, IsSettled, Rule, geometry}
use Rattle.flat_layout.specs.Gates.{sheets}
use Rattle.flat_layout.specs.Layers.{Formula, IsKept}
use Rattle.flat_layout.specs.Layout.{Design}
use Rattle.flat_layout.specs.Parts.{IsCloseTo, Sheets}
use Rattle.plain_netlist.specs.declared.kinds.DeviceKind.{DeviceKind}
use Rattle.plain_netlist.specs.declared.kinds.DeviceKind.TheVariants.{Mos4, ResistorWithBulk, Diode}
use Rattle.gate_shapes.specs.Sets.{in_set}
use Rattle.gate_search.specs.Gather.{AreMet}
use Rattle.gate_phase.specs.Kept.{HasLocals}
use Rattle.gate_phase.specs.Site.{layout_at, wiring_at}
use Rattle.gate_phase.specs.declared.site.Site.{Site}

-- the part is the settled gate that has s, and these squares are close to it
pub record IsGatePart (d : Design) (g : Geometry) (cell : ℕ) (s : Square)
    (part close : List Rect) : Type 0 where
  pub settled : IsSettled d g cell s
  pub squares : (q : Square) → in_set part q ↔ InGate d g cell s q
  pub are_close : (q : Square) → in_set close q ↔ IsCloseTo (in_set part) q

-- what the gate's squares must lie on: of a transistor what the cell keeps of the gate's conductor,
-- of another device its part itself
abbrev pub IsGateSheet : DeviceKind → (Square → Type 0) → List Rect → List Rect → List Rect → Type 0
IsGateSheet Mos4 keeps windows part sheet = AreMet keeps windows sheet
IsGateSheet ResistorWithBulk keeps windows part sheet = sheet ≡ part
IsGateSheet Diode keeps windows part sheet = sheet ≡ part

-- The same of a site: a cell with its layout, the rules and the layers.

-- the set is what the cell keeps of the name, met at these windows
abbrev pub IsKeptAt : Site → ℕ → (windows set : List Rect) → Type 0
IsKeptAt site name windows set = (x : Formula) → HasLocals (layout_at site) site.layers.now name x
    → AreMet (IsKept (layout_at site) site.cell x) windows set

-- the set is what the gates of such devices must lie on
abbrev pub IsSheetAt : Site → DeviceKind → ℕ → (windows part set : List Rect) → Type 0
IsSheetAt site kind name windows part set = (x : Formula)
    → HasLocals (layout_at site) site.layers.now name x
    → IsGateSheet kind (IsKept (layout_at site) site.cell x) windows part set

-- the rule's gate that has s
abbrev pub IsGateAt : Site → Rule → Square → Square → Type 0
IsGateAt site u s q = InGate (layout_at site) (geometry (wiring_at site) u) site.cell s q

abbrev pub IsPartAt : Site → Rule → Square → (part close : List Rect) → Type 0
IsPartAt site u s part close = IsGatePart (layout_at site) (geometry (wiring_at site) u) site.cell s
    part close

-- the sheets of the rule
abbrev pub sheets_at : Site → Rule → Sheets
sheets_at site u = sheets (layout_at site) (wiring_at site) u site.cell
