-- A layout of one cell with a layer that is shrunk: of a square of three by three its middle stays.
-- By one rule that is a resistor between the squares left and right of it, by another a diode.
use Rattle.std.specs.Prelude.{◌≡◌, ◌⊎◌, ◌↔◌, ℕ, [], ◌∷◌, pos, negsuc}
use Rattle.geo_base.specs.declared.shapes.Rect.{Rect}
use Rattle.geo_base.specs.declared.shapes.Square.{Square}
use Rattle.flat_layout.specs.Gates.{geometry, IsListedGate, Rule}
use Rattle.flat_layout.specs.GateTables.{GateSquare}
use Rattle.flat_layout.specs.Layers.{Empty, Formula, InFlat, Input, Sized}
use Rattle.flat_layout.specs.Layout.{Cell, Design}
use Rattle.flat_layout.specs.Regions.{At, Ground, Node, Wiring}
use Rattle.flat_layout.specs.declared.way.Way.TheVariants.{Disturbed}
use Rattle.headline_laws.specs.FlatNetlist.{IsFlatDevice}
use Rattle.law_samples.specs.Transistors.{key_of, vss}
use Rattle.plain_netlist.specs.declared.kinds.DeviceKind.TheVariants.{Diode, ResistorWithBulk}
use Rattle.plain_netlist.specs.Devices.{Both, NoEnds, Row}

abbrev pub middle : Square
middle = record { x = pos 1; y = pos 1 }

abbrev pub left : Square
left = record { x = pos 0; y = pos 1 }

abbrev pub right : Square
right = record { x = pos 2; y = pos 1 }

abbrev pub body_rect : Rect
body_rect = record { x1 = pos 0; y1 = pos 0; x2 = pos 3; y2 = pos 3 }

abbrev pub left_rect : Rect
left_rect = record { x1 = pos 0; y1 = pos 1; x2 = pos 1; y2 = pos 2 }

abbrev pub right_rect : Rect
right_rect = record { x1 = pos 2; y1 = pos 1; x2 = pos 3; y2 = pos 2 }

-- "t": the body on layer 0, the ends on layer 1
abbrev pub small_cell : Cell
small_cell = record {
  name = 116 ∷ [];
  layers = record { key = key_of 0; rects = body_rect ∷ [] }
      ∷ record { key = key_of 1; rects = left_rect ∷ right_rect ∷ [] } ∷ [];
  texts = [];
  places = [];
}

abbrev pub small_design : Design
small_design = record { cells = small_cell ∷ []; top = 0; way = Disturbed }

abbrev pub shrunk : Formula
shrunk = Sized (negsuc 0) (Input (key_of 0))

-- conductor 0 is the ends, 1 the body, 2 the substrate, which belongs to the one global
abbrev pub small_wiring : Wiring
small_wiring = record {
  conductors = Input (key_of 1) ∷ Input (key_of 0) ∷ Empty ∷ [];
  joins = [];
  grounds = record { first = 2; second = 0 } ∷ [];
  labels = [];
  globals = vss ∷ [];
}

abbrev pub resistor_rule : Rule
resistor_rule = record {
  class = 82 ∷ [];
  kind = ResistorWithBulk;
  sd = Input (key_of 1);
  gate = shrunk;
  well = Empty;
  ts = 0;
  tg = 0;
  tb = 2;
}

-- its anode is the body, its cathode the substrate
abbrev pub diode_rule : Rule
diode_rule = record {
  class = 68 ∷ [];
  kind = Diode;
  sd = Empty;
  gate = shrunk;
  well = Empty;
  ts = 1;
  tg = 1;
  tb = 2;
}

-- one unit of 1,000 picometres long and wide, in femtometres
abbrev pub resistor_row : Row Node
resistor_row = record {
  kind = ResistorWithBulk;
  class = 82 ∷ [];
  sizes = 1000000 ∷ 1000000 ∷ [];
  ends = Both (At 0 left) (At 0 right);
  others = Ground 0 ∷ [];
}

-- four units round, one square unit
abbrev pub diode_row : Row Node
diode_row = record {
  kind = Diode;
  class = 68 ∷ [];
  sizes = 4000000 ∷ 1000000 ∷ [];
  ends = NoEnds;
  others = At 1 middle ∷ Ground 0 ∷ [];
}

abbrev pub spot : ℕ → GateSquare
spot rule = record { rule = rule; square = middle }

abbrev pub IsDevice : GateSquare → Row Node → Type 0
IsDevice = IsFlatDevice small_design small_wiring (resistor_rule ∷ diode_rule ∷ []) 1000

-- the middle alone stays of the body, and is listed once by each rule
abbrev pub ShrunkLaw : Type 0
ShrunkLaw = ((q : Square) → InFlat small_design 0 shrunk q ↔ (q ≡ middle))
    × ((q : Square) → IsListedGate small_design (geometry small_wiring resistor_rule) 0 q
    ↔ (q ≡ middle))
    × ((q : Square) → IsListedGate small_design (geometry small_wiring diode_rule) 0 q
    ↔ (q ≡ middle))

-- the flat layout has these two devices, and no other
abbrev pub ShrunkDevicesLaw : Type 0
ShrunkDevicesLaw = IsDevice (spot 0) resistor_row × IsDevice (spot 1) diode_row
    × ((g : GateSquare) (row : Row Node) → IsDevice g row → (g ≡ spot 0) ⊎ (g ≡ spot 1))
