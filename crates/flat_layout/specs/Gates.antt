-- The gates of a device rule in a cell: edge-connected parts of a flat layer, each with what lies
-- round it.
use Rattle.std.specs.Prelude.{◌≡◌, ◌⊎◌, ℕ, zero, suc, ◌*◌, ◌≤◌, max, List, [], ◌∷◌, ◌++◌, Option}
use Rattle.std.specs.Prelude.{Some, None}
use Rattle.geo_base.specs.Motions.{moved_square}
use Rattle.geo_base.specs.declared.layer.LayerKey.{LayerKey}
use Rattle.geo_base.specs.declared.motion.Motion.{Motion}
use Rattle.geo_base.specs.declared.shapes.Square.{Square}
use Rattle.flat_layout.specs.Layers.{Formula, inputs, reach, InFlat, IsCalmAt, IsLone}
use Rattle.flat_layout.specs.Layout.{Place, Design, Some_of, IsPlaced, Takes}
pub use Rattle.flat_layout.specs.Parts.{IsStep, IsLeast, Edge, Counts, AreClasses}
pub use Rattle.flat_layout.specs.Parts.{Form, Beside, Alone, Sides, TwoGroups, Region}
use Rattle.flat_layout.specs.Parts.{InPart, IsCloseTo, InRingOf, InSideOf, InGroupOf, IsBorderOf}
use Rattle.flat_layout.specs.Parts.{IsWideOf, IsLongOf, AreGroupsOf, Sheets, IsGoodForm, IsBadForm}
use Rattle.flat_layout.specs.Plane.{IsSquareBefore}
use Rattle.flat_layout.specs.Regions.{Wiring, Node, At, Ground, formula, ground_of}
use Rattle.plain_netlist.specs.declared.kinds.DeviceKind.{DeviceKind}
use Rattle.plain_netlist.specs.declared.kinds.DeviceKind.TheVariants.{Mos4, ResistorWithBulk, Diode}
use Rattle.plain_netlist.specs.Devices.{Terminal, First, Second, Other}
use Rattle.flat_layout.specs.declared.cause.GateCause.{GateCause}

-- what the geometry of a kind of device reads: the layer whose parts are its gates, the input
-- layers on which a shape from elsewhere disturbs one, and how far from a gate's squares and its
-- ring such a shape may lie
pub record Geometry : Type 0 where
  pub region : Formula
  pub keys : List LayerKey
  pub reach : ℕ

-- it reads all that a name does
pub record IsReadBy (g : Geometry) (name : Formula) : Type 0 where
  pub keys : (key : LayerKey) → Some_of (λ k. k ≡ key) (inputs name) → Some_of (λ k. k ≡ key) g.keys
  pub reach : reach name ≤ g.reach

-- and so its gates' layer
abbrev pub IsSoundGeometry : Geometry → Type 0
IsSoundGeometry g = IsReadBy g g.region

-- the edge-connected part of the cell's flat gate squares that has s
abbrev pub InGate : Design → Geometry → ℕ → Square → Square → Type 0
InGate d g cell s = InPart (InFlat d cell g.region) s

-- a square of the gate or of its ring
abbrev pub IsGateOrRing : Design → Geometry → ℕ → Square → Square → Type 0
IsGateOrRing d g cell s = IsCloseTo (InGate d g cell s)

-- a square of the ring
abbrev pub InRing : Design → Geometry → ℕ → Square → Square → Type 0
InRing d g cell s = InRingOf (InGate d g cell s)

-- all is calm on the gate and its ring, and not all of it can be made by others alone: so it is whole
-- in the cell, and no other placement makes it too
pub record IsSettled (d : Design) (g : Geometry) (cell : ℕ) (s : Square) : Type 0 where
  pub is : InFlat d cell g.region s
  pub calm : (q : Square) → IsGateOrRing d g cell s q → IsCalmAt d g.keys g.reach cell q
  pub mine : Square
  pub in_gate : InGate d g cell s mine
  pub alone : IsLone d cell g.region mine → ⊥

-- the gate is the image of a settled one
pub record IsGateBelow (d : Design) (g : Geometry) (cell : ℕ) (s : Square) : Type 0 where
  pub number : ℕ
  pub place : Place
  pub square : Square
  pub placed : IsPlaced d cell number place
  pub settled : IsSettled d g place.cell square
  pub image : InGate d g cell s (moved_square place.motion square)

-- a gate of the cell's own list: settled here, and not the image of a settled one
pub record IsListedGate (d : Design) (g : Geometry) (cell : ℕ) (s : Square) : Type 0 where
  pub settled : IsSettled d g cell s
  pub new : IsGateBelow d g cell s → ⊥

-- a gate of a list somewhere below, with its image
pub record IsFound (d : Design) (g : Geometry) (cell : ℕ) (s : Square) : Type 0 where
  pub path : List ℕ
  pub end : ℕ
  pub square : Square
  pub place : Square
  pub takes : Takes d cell path end square place
  pub image : InGate d g cell s place
  pub gate : IsListedGate d g end square

-- a diode is its region; the others lie between two groups beside theirs
abbrev pub form_of : DeviceKind → Form
form_of Mos4 = Beside
form_of ResistorWithBulk = Beside
form_of Diode = Alone

-- a device rule: its class and kind; the layer whose parts are its regions (`gate`), that of the
-- groups beside them, the well; and the conductors of the ends, of the gate and of the bulk. Only a
-- transistor has a gate of its own: of another device it says nothing. Of a diode the ends'
-- conductor is the anode's, the bulk's is the cathode's, and there are no groups and no well
pub record Rule : Type 0 where
  pub class : List ℕ
  pub kind : DeviceKind
  pub sd : Formula
  pub gate : Formula
  pub well : Formula
  pub ts : ℕ
  pub tg : ℕ
  pub tb : ℕ

-- the globals of a diode's anode and of the bulk: those of their conductors
abbrev pub anode_ground : Wiring → Rule → Option ℕ
anode_ground w u = ground_of u.ts w.grounds

abbrev pub ground : Wiring → Rule → Option ℕ
ground w u = ground_of u.tb w.grounds

-- the input layers on which a shape from elsewhere disturbs the rule's gates
abbrev pub gate_inputs : Wiring → Rule → List LayerKey
gate_inputs w u = inputs u.sd ++ (inputs u.gate
    ++ (inputs u.well ++ (inputs (formula w u.ts)
    ++ (inputs (formula w u.tg) ++ inputs (formula w u.tb)))))

-- the greatest reach of these layers
abbrev pub gate_reach : Wiring → Rule → ℕ
gate_reach w u = max (reach u.sd) (max (reach u.gate)
    (max (reach u.well) (max (reach (formula w u.ts))
    (max (reach (formula w u.tg)) (reach (formula w u.tb))))))

-- what the rule's geometry reads
abbrev pub geometry : Wiring → Rule → Geometry
geometry w u = record { region = u.gate; keys = gate_inputs w u; reach = gate_reach w u }

-- the width of a rule's devices in femtometres, from twice the width in squares, with the unit in
-- picometres; of a diode its area in square picometres, from its squares
abbrev pub width_by : DeviceKind → ℕ → ℕ → ℕ
width_by Mos4 unit twice_w = twice_w * (unit * 500)
width_by ResistorWithBulk unit twice_w = twice_w * (unit * 500)
width_by Diode unit squares = squares * (unit * unit)

abbrev pub width_of : Rule → ℕ → ℕ → ℕ
width_of u unit n = width_by u.kind unit n

-- and the length, from twice the length; of a diode its perimeter, from twice its edges
abbrev pub length_of : Rule → ℕ → ℕ → ℕ
length_of u unit twice_l = twice_l * (unit * 500)

-- both, in the order of a device's sizes
abbrev pub sizes_of : Rule → ℕ → ℕ → ℕ → List ℕ
sizes_of u unit twice_w twice_l = length_of u unit twice_l ∷ width_of u unit twice_w ∷ []

-- source or drain squares of the ring
abbrev pub InSide : Design → Wiring → Rule → ℕ → Square → Square → Type 0
InSide d w u cell s = InSideOf (InGate d (geometry w u) cell s) (InFlat d cell u.sd)

-- joined by shared edges inside the ring
abbrev pub InOneGroup : Design → Wiring → Rule → ℕ → Square → Square → Square → Type 0
InOneGroup d w u cell s = InGroupOf (InGate d (geometry w u) cell s) (InFlat d cell u.sd)

-- a boundary edge of the gate, and whether source or drain lies beyond
abbrev pub IsBorder : Design → Wiring → Rule → ℕ → Square → Edge → Type 0
IsBorder d w u cell s = IsBorderOf (InGate d (geometry w u) cell s)

abbrev pub IsWide : Design → Wiring → Rule → ℕ → Square → Edge → Type 0
IsWide d w u cell s = IsWideOf (InGate d (geometry w u) cell s) (InFlat d cell u.sd)

abbrev pub IsLong : Design → Wiring → Rule → ℕ → Square → Edge → Type 0
IsLong d w u cell s = IsLongOf (InGate d (geometry w u) cell s) (InFlat d cell u.sd)

abbrev pub AreGroups : Design → Wiring → Rule → ℕ → Square → List Edge → Type 0
AreGroups d w u cell s = AreGroupsOf (InGate d (geometry w u) cell s) (InFlat d cell u.sd)

-- each square passes where there is no gate
abbrev pub gate_sheet : DeviceKind → (Square → Type 0) → Square → Type 0
gate_sheet Mos4 on q = on q
gate_sheet ResistorWithBulk on q = Unit {0}
gate_sheet Diode on q = Unit {0}

-- the flat sets of the cell by which the rule's regions are judged
abbrev pub sheets : Design → Wiring → Rule → ℕ → Sheets
sheets d w u cell = record {
  ends = InFlat d cell u.sd;
  on_ends = InFlat d cell (formula w u.ts);
  on_gate = gate_sheet u.kind (InFlat d cell (formula w u.tg));
  on_bulk = InFlat d cell (formula w u.tb);
  free = anode_ground w u ≡ None;
  loose = ground w u ≡ None;
}

-- a good region, with the sides of its device and its sizes
abbrev pub IsGoodGate : Design → Wiring → Rule → ℕ → Square → Sides → ℕ → ℕ → Type 0
IsGoodGate d w u cell s =
    IsGoodForm (form_of u.kind) (sheets d w u cell) (InGate d (geometry w u) cell s)

-- a bad one: the first test that it fails
abbrev pub IsBadGate : Design → Wiring → Rule → ℕ → Square → GateCause → Type 0
IsBadGate d w u cell s =
    IsBadForm (form_of u.kind) (sheets d w u cell) (InGate d (geometry w u) cell s)

-- the first end, a transistor's source, is the group with the least square
abbrev pub IsSourceFirst : Design → Wiring → Rule → ℕ → Square → Sides → Type 0
IsSourceFirst d w u cell s (TwoGroups e f) = (p : Square) × InOneGroup d w u cell s e.outer p
    × ((q : Square) → InOneGroup d w u cell s f.outer q → IsSquareBefore p q)
IsSourceFirst d w u cell s Region = Unit {0}

-- the global of a conductor, or a square of the region on it
abbrev pub IsRegionNode : Design → Wiring → Rule → ℕ → Square → ℕ → Node → Type 0
IsRegionNode d w u cell s c n =
    ((g : ℕ) × (ground_of c w.grounds ≡ Some g) × (Ground g ≡ n))
    ⊎ ((ground_of c w.grounds ≡ None) × ((q : Square) × InGate d (geometry w u) cell s q
    × (At c q ≡ n)))

-- a node of the group beyond the edge
abbrev pub IsGroupNode : Design → Wiring → Rule → ℕ → Square → Edge → Node → Type 0
IsGroupNode d w u cell s e n = (q : Square) × InOneGroup d w u cell s e.outer q × (At u.ts q ≡ n)

-- nodes of the two ends, where a device has such
abbrev pub IsFirstNode : Design → Wiring → Rule → ℕ → Square → Sides → Node → Type 0
IsFirstNode d w u cell s (TwoGroups e f) n = IsGroupNode d w u cell s e n
IsFirstNode d w u cell s Region n = ⊥

abbrev pub IsSecondNode : Design → Wiring → Rule → ℕ → Square → Sides → Node → Type 0
IsSecondNode d w u cell s (TwoGroups e f) n = IsGroupNode d w u cell s f n
IsSecondNode d w u cell s Region n = ⊥

-- a square of the region on the gate's conductor: a transistor's gate has no global
abbrev pub IsGateNode : Design → Wiring → Rule → ℕ → Square → Node → Type 0
IsGateNode d w u cell s n = (q : Square) × InGate d (geometry w u) cell s q × (At u.tg q ≡ n)

-- nodes of the other terminals: a transistor's gate and bulk, a resistor's bulk, a diode's anode
-- and cathode
abbrev pub IsOtherNode : DeviceKind → Design → Wiring → Rule → ℕ → Square → ℕ → Node → Type 0
IsOtherNode Mos4 d w u cell s zero n = IsGateNode d w u cell s n
IsOtherNode Mos4 d w u cell s (suc zero) n = IsRegionNode d w u cell s u.tb n
IsOtherNode Mos4 d w u cell s (suc (suc place)) n = ⊥
IsOtherNode ResistorWithBulk d w u cell s zero n = IsRegionNode d w u cell s u.tb n
IsOtherNode ResistorWithBulk d w u cell s (suc place) n = ⊥
IsOtherNode Diode d w u cell s zero n = IsRegionNode d w u cell s u.ts n
IsOtherNode Diode d w u cell s (suc zero) n = IsRegionNode d w u cell s u.tb n
IsOtherNode Diode d w u cell s (suc (suc place)) n = ⊥

-- the nodes of a good device's terminals
abbrev pub IsTerminalNode : Design → Wiring → Rule → ℕ → Square → Sides → Terminal → Node → Type 0
IsTerminalNode d w u cell s sides First n = IsFirstNode d w u cell s sides n
IsTerminalNode d w u cell s sides Second n = IsSecondNode d w u cell s sides n
IsTerminalNode d w u cell s sides (Other place) n = IsOtherNode u.kind d w u cell s place n

abbrev pub moved_edge : Motion → Edge → Edge
moved_edge m e = record { inner = moved_square m e.inner; outer = moved_square m e.outer }

abbrev pub moved_sides : Motion → Sides → Sides
moved_sides m (TwoGroups e f) = TwoGroups (moved_edge m e) (moved_edge m f)
moved_sides m Region = Region
