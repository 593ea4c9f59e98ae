-- A child cell and a parent that places it mirrored, all squares in one row: a transistor in the
-- child, and one across both, where the parent's poly crosses the child's active. A text of the
-- parent names the side that both transistors share.
use Rattle.std.specs.Prelude.{ℕ, zero, suc, Bool, true, false, List, [], ◌∷◌, map, pos}
use Rattle.geo_base.specs.declared.layer.LayerKey.{LayerKey}
use Rattle.geo_base.specs.declared.layer.Op.TheVariants.{And, Not}
use Rattle.geo_base.specs.declared.motion.Turn.TheVariants.{M180}
use Rattle.geo_base.specs.declared.shapes.Rect.{Rect}
use Rattle.geo_base.specs.declared.shapes.Square.{Square}
use Rattle.flat_layout.specs.Circuits.{CircuitParts}
use Rattle.flat_layout.specs.Expanded.{CircuitTables}
use Rattle.flat_layout.specs.Gates.{Rule}
use Rattle.flat_layout.specs.GateTables.{GateEntry, GateRow, Good}
use Rattle.flat_layout.specs.Layers.{Formula, Input, Empty, Binary}
use Rattle.flat_layout.specs.Layout.{Place, Layer, Text, Cell, Design}
use Rattle.flat_layout.specs.Nets.{Own, Child, Global, CellNets, Tables}
use Rattle.flat_layout.specs.Pins.{CellPins}
use Rattle.flat_layout.specs.Regions.{Wiring}
use Rattle.flat_layout.specs.declared.way.Way.TheVariants.{Disturbed}
use Rattle.plain_netlist.specs.declared.kinds.DeviceKind.TheVariants.{Mos4}
use Rattle.plain_netlist.specs.Devices.{Both}
use Rattle.plain_netlist.specs.Netlist.{Circuit, DeviceRow, Netlist}

abbrev pub key_of : ℕ → LayerKey
key_of c = record { layer = c; datatype = 0 }

-- the unit square in row 0 at a column
abbrev pub at : ℕ → Square
at x = record { x = pos x; y = pos 0 }

abbrev pub unit_rect : ℕ → Rect
unit_rect x = record { x1 = pos x; y1 = pos 0; x2 = pos (suc x); y2 = pos 1 }

-- the columns of a cell's own squares on layer 0, active, and on layer 1, poly
abbrev pub columns : ℕ → ℕ → List ℕ
columns zero zero = 0 ∷ (1 ∷ (2 ∷ (3 ∷ [])))
columns zero (suc zero) = 1 ∷ []
columns zero (suc (suc c)) = []
columns (suc zero) zero = 0 ∷ []
columns (suc zero) (suc zero) = 1 ∷ []
columns (suc zero) (suc (suc c)) = []
columns (suc (suc n)) c = []

abbrev pub rects_of : ℕ → ℕ → List Rect
rects_of cell c = map unit_rect (columns cell c)

abbrev pub layers_of : ℕ → List Layer
layers_of cell = (record { key = key_of 0; rects = rects_of cell 0 })
    ∷ ((record { key = key_of 1; rects = rects_of cell 1 }) ∷ [])

-- "c"
abbrev pub child : Cell
child = record { name = 99 ∷ []; layers = layers_of 0; texts = []; places = [] }

-- the child's column x comes to stand in column 4 - x
abbrev pub mirror_place : Place
mirror_place = record { cell = 0; motion = record { turn = M180; dx = pos 5; dy = pos 0 } }

-- "d", on layer 2, at the corner between columns 1 and 2
abbrev pub drain_text : Text
drain_text = record { key = key_of 2; at = record { x = pos 2; y = pos 0 }; string = 100 ∷ [] }

-- "p"
abbrev pub parent : Cell
parent = record {
  name = 112 ∷ [];
  layers = layers_of 1;
  texts = drain_text ∷ [];
  places =
      mirror_place ∷ [];
}

abbrev pub gate_design : Design
gate_design = record { cells = child ∷ (parent ∷ []); top = 1; way = Disturbed }

-- active without poly, and with it
abbrev pub sides : Formula
sides = Binary Not (Input (key_of 0)) (Input (key_of 1))

abbrev pub crossings : Formula
crossings = Binary And (Input (key_of 0)) (Input (key_of 1))

-- "vss"
abbrev pub vss : List ℕ
vss = 118 ∷ (115 ∷ (115 ∷ []))

-- conductor 0 is the sides, 1 poly, 2 the substrate, an empty layer that belongs to the one global;
-- texts on layer 2 name sides
abbrev pub gate_wiring : Wiring
gate_wiring = record {
  conductors = sides ∷ (Input (key_of 1) ∷ (Empty ∷ []));
  joins = [];
  grounds =
      (record { first = 2; second = 0 }) ∷ [];
  labels =
      (record { key = key_of 2; conductor = 0 }) ∷ [];
  globals = vss ∷ [];
}

-- the columns that a cell itself holds of a conductor: not the child's side in column 3, which lies
-- under the parent's poly, nor the parent's sides that come from the child
abbrev pub held : ℕ → ℕ → List ℕ
held zero zero = 0 ∷ (2 ∷ [])
held zero (suc zero) = 1 ∷ []
held zero (suc (suc c)) = []
held (suc zero) zero = 0 ∷ []
held (suc zero) (suc zero) = 1 ∷ []
held (suc zero) (suc (suc c)) = []
held (suc (suc n)) c = []

abbrev pub own_of : ℕ → ℕ → List Rect
own_of cell c = map unit_rect (held cell c)

-- each square is a net, and the global is the last one
abbrev pub nets_of : ℕ → CellNets
nets_of zero = record {
  items = Own 0 0 ∷ (Own 0 1 ∷ (Own 1 0 ∷ (Global 0 ∷ [])));
  net_of =
      0 ∷ (1 ∷ (2 ∷ (3 ∷ [])));
  count = 4;
}
nets_of (suc zero) = record {
  items = Own 0 0 ∷ (Own 1 0 ∷ (Child 0 0
      ∷ (Child 0 1 ∷ (Child 0 2 ∷ (Child 0 3 ∷ (Global 0 ∷ []))))));
  net_of = 0 ∷ (1 ∷ (2 ∷ (3 ∷ (4 ∷ (5 ∷ (5 ∷ []))))));
  count = 6;
}
nets_of (suc (suc n)) = record { items = []; net_of = []; count = 0 }

abbrev pub gate_tables : Tables
gate_tables = record { own = own_of; nets = nets_of }

-- "nmos"
abbrev pub nmos : List ℕ
nmos = 110 ∷ (109 ∷ (111 ∷ (115 ∷ [])))

abbrev pub rule : Rule
rule = record {
  class = nmos;
  kind = Mos4;
  sd = sides;
  gate = crossings;
  well = Empty;
  ts = 0;
  tg = 1;
  tb = 2;
}

abbrev pub gate_rules : List Rule
gate_rules = rule ∷ []

-- a gate of one square between two sides, two edges wide and two long, over the cell's nets
abbrev pub gate_on : ℕ → ℕ → ℕ → ℕ → GateRow
gate_on source gate drain bulk = record {
  kind = Mos4;
  twice_w = 2;
  twice_l = 2;
  ends = Both source drain;
  others = gate ∷ bulk ∷ [];
}

abbrev pub entry : GateRow → GateEntry
entry row = record { at = record { rule = 0; square = at 1 }; verdict = Good row }

abbrev pub child_gate : GateRow
child_gate = gate_on 0 2 1 3

abbrev pub across_gate : GateRow
across_gate = gate_on 0 1 3 5

-- either cell's gate stands in its column 1
abbrev pub gates_of : ℕ → List GateEntry
gates_of zero = entry child_gate ∷ []
gates_of (suc zero) = entry across_gate ∷ []
gates_of (suc (suc n)) = []

-- pins of the child: the side that the parent's transistor uses, and the global; of the parent: the
-- side with the text, and the global
abbrev pub pins_of : ℕ → CellPins
pins_of zero =
    record { pins = false ∷ (true ∷ (false ∷ (true ∷ []))); names = [] ∷ ([] ∷ ([] ∷ (vss ∷ []))) }
pins_of (suc zero) = record {
  pins = false
      ∷ (false ∷ (false ∷ (true ∷ (false ∷ (true ∷ [])))));
  names =
      [] ∷ ([] ∷ ([] ∷ ((100 ∷ []) ∷ ([] ∷ (vss ∷ [])))));
}
pins_of (suc (suc n)) = record { pins = []; names = [] }

-- nets with a transistor's terminal at or below the cell
abbrev pub drawn_of : ℕ → List Bool
drawn_of zero = true ∷ (true ∷ (true ∷ (true ∷ [])))
drawn_of (suc zero) = true ∷ (true ∷ (false ∷ (true ∷ (false ∷ (true ∷ [])))))
drawn_of (suc (suc n)) = []

-- pins first, the others as the devices name them
abbrev pub parts_of : ℕ → CircuitParts
parts_of zero = record { nets = 1 ∷ (3 ∷ (2 ∷ (0 ∷ []))); calls = [] }
parts_of (suc zero) = record { nets = 3 ∷ (5 ∷ (1 ∷ (0 ∷ []))); calls = 0 ∷ [] }
parts_of (suc (suc n)) = record { nets = []; calls = [] }

abbrev pub gate_circuits : CircuitTables
gate_circuits = record {
  gates = gates_of;
  pins = pins_of;
  drawn = drawn_of;
  cells =
      0 ∷ (1 ∷ []);
  parts = parts_of;
}

-- a transistor of one square: one unit of 1,000 picometres wide and long, in femtometres
abbrev pub row_on : ℕ → ℕ → ℕ → ℕ → DeviceRow
row_on source gate drain bulk = record {
  kind = Mos4;
  class = nmos;
  sizes = 1000000 ∷ 1000000 ∷ [];
  ends = Both source drain;
  others = gate ∷ bulk ∷ [];
}

-- "$1" to "$3", "D" and "VSS"
abbrev pub dollar : ℕ → List ℕ
dollar digit = 36 ∷ (digit ∷ [])

abbrev pub big_d : List ℕ
big_d = 68 ∷ []

abbrev pub big_vss : List ℕ
big_vss = 86 ∷ (83 ∷ (83 ∷ []))

-- "C"; rows are over the circuit's nets
abbrev pub child_circuit : Circuit
child_circuit = record {
  name = 67 ∷ [];
  nets =
      dollar 50 ∷ (big_vss ∷ (dollar 51 ∷ (dollar 49 ∷ [])));
  pins = 0 ∷ (1 ∷ []);
  devices =
      row_on 3 2 0 1 ∷ [];
  calls = [];
}

-- "P"; the call's pins are the drain of the transistor across both and the global
abbrev pub parent_circuit : Circuit
parent_circuit = record {
  name = 80 ∷ [];
  nets =
      big_d ∷ (big_vss ∷ (dollar 50 ∷ (dollar 49 ∷ [])));
  pins = 0 ∷ (1 ∷ []);
  devices =
      row_on 3 2 0 1 ∷ [];
  calls = (record { circuit = 0; nets = 0 ∷ (1 ∷ []) }) ∷ [];
}

abbrev pub gate_netlist : Netlist
gate_netlist = record { circuits = child_circuit ∷ (parent_circuit ∷ []) }
