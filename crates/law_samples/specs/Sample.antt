-- A child cell and a parent that places it, each with one rectangle of one conductor; the
-- rectangles overlap.
use Rattle.std.specs.Prelude.{ℕ, zero, suc, Bool, true, false, List, [], ◌∷◌, pos}
use Rattle.geo_base.specs.declared.layer.LayerKey.{LayerKey}
use Rattle.geo_base.specs.declared.motion.Turn.TheVariants.{R0}
use Rattle.geo_base.specs.declared.shapes.Rect.{Rect}
use Rattle.flat_layout.specs.Expanded.{CircuitTables}
use Rattle.flat_layout.specs.Gates.{Rule}
use Rattle.flat_layout.specs.Layers.{Input}
use Rattle.flat_layout.specs.Layout.{Place, Cell, Design}
use Rattle.flat_layout.specs.Nets.{Own, Child, CellNets, Tables}
use Rattle.flat_layout.specs.Pins.{CellPins}
use Rattle.flat_layout.specs.Regions.{Wiring}
use Rattle.flat_layout.specs.declared.way.Way.TheVariants.{Disturbed}
use Rattle.plain_netlist.specs.Netlist.{Circuit, Netlist}

abbrev pub metal : LayerKey
metal = record { layer = 1; datatype = 0 }

abbrev pub child_rect : Rect
child_rect = record { x1 = pos 0; y1 = pos 0; x2 = pos 2; y2 = pos 1 }

abbrev pub parent_rect : Rect
parent_rect = record { x1 = pos 1; y1 = pos 0; x2 = pos 3; y2 = pos 1 }

abbrev pub child : Cell
child = record {
  name = 97 ∷ [];
  layers =
      (record { key = metal; rects = child_rect ∷ [] }) ∷ [];
  texts = [];
  places = [];
}

abbrev pub place : Place
place = record { cell = 0; motion = record { turn = R0; dx = pos 0; dy = pos 0 } }

abbrev pub parent : Cell
parent = record {
  name = 98 ∷ [];
  layers =
      (record { key = metal; rects = parent_rect ∷ [] }) ∷ [];
  texts = [];
  places = place ∷ [];
}

abbrev pub sample_design : Design
sample_design = record { cells = child ∷ (parent ∷ []); top = 1; way = Disturbed }

abbrev pub sample_wiring : Wiring
sample_wiring =
    record { conductors = Input metal ∷ []; joins = []; grounds = []; labels = []; globals = [] }

abbrev pub own_of : ℕ → ℕ → List Rect
own_of zero zero = child_rect ∷ []
own_of zero (suc c) = []
own_of (suc zero) zero = parent_rect ∷ []
own_of (suc zero) (suc c) = []
own_of (suc (suc n)) c = []

abbrev pub nets_of : ℕ → CellNets
nets_of zero = record { items = Own 0 0 ∷ []; net_of = 0 ∷ []; count = 1 }
nets_of (suc zero) = record { items = Own 0 0 ∷ (Child 0 0 ∷ []); net_of = 0 ∷ (0 ∷ []); count = 1 }
nets_of (suc (suc n)) = record { items = []; net_of = []; count = 0 }

abbrev pub sample_tables : Tables
sample_tables = record { own = own_of; nets = nets_of }

-- the child stands below the parent
abbrev pub sample_level : ℕ → ℕ
sample_level zero = 0
sample_level (suc zero) = 1
sample_level (suc (suc n)) = 0

-- the child's net is a pin, since the parent's rectangle lies on it; no net has a name
abbrev pub pins_of : ℕ → CellPins
pins_of zero = record { pins = true ∷ []; names = [] ∷ [] }
pins_of (suc zero) = record { pins = false ∷ []; names = [] ∷ [] }
pins_of (suc (suc n)) = record { pins = []; names = [] }

-- no net is drawn
abbrev pub drawn_of : ℕ → List Bool
drawn_of zero = false ∷ []
drawn_of (suc zero) = false ∷ []
drawn_of (suc (suc n)) = []

-- the top alone has a circuit
abbrev pub small_circuits : CircuitTables
small_circuits = record {
  gates = λ cell. [];
  pins = pins_of;
  drawn = drawn_of;
  cells =
      1 ∷ [];
  parts = λ cell. record { nets = []; calls = [] };
}

-- "B"
abbrev pub top_circuit : Circuit
top_circuit = record { name = 66 ∷ []; nets = []; pins = []; devices = []; calls = [] }

abbrev pub sample_netlist : Netlist
sample_netlist = record { circuits = top_circuit ∷ [] }

-- no device rules
abbrev pub sample_rules : List Rule
sample_rules = []
