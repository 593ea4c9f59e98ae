-- The gates of a cell's list: good ones over the nets of the cell, bad ones with their cause.
use Rattle.std.specs.Prelude.{◌≡◌, ◌⊎◌, ◌++◌, ℕ, ◌<◌, List, [], ◌∷◌, Some, slice_get}
use Rattle.geo_base.specs.declared.shapes.Square.{Square}
use Rattle.flat_layout.specs.Gates.{Rule, Sides, geometry, InGate, IsSettled, IsGateBelow}
use Rattle.flat_layout.specs.Gates.{IsListedGate, IsLeast, IsGoodGate, IsBadGate, IsSourceFirst}
use Rattle.flat_layout.specs.Gates.{IsTerminalNode}
use Rattle.flat_layout.specs.Layout.{Design}
use Rattle.flat_layout.specs.Nets.{Tables, NetHolds}
use Rattle.flat_layout.specs.Order.{IsOrder}
use Rattle.flat_layout.specs.Plane.{IsSquareBefore}
use Rattle.flat_layout.specs.Regions.{Wiring, Node}
use Rattle.plain_netlist.specs.Lists.{IsListed, AreRising}
use Rattle.plain_netlist.specs.declared.kinds.DeviceKind.{DeviceKind}
use Rattle.plain_netlist.specs.Devices.{Ends, Row, Terminal, IsAt, IsFormed, nets_of}
use Rattle.flat_layout.specs.declared.cause.GateCause.{GateCause}

-- a gate, by its rule's number and one of its squares
pub record GateSquare : Type 0 where
  pub rule : ℕ
  pub square : Square

-- by rule, then least square
abbrev pub IsGateBefore : GateSquare → GateSquare → Type 0
IsGateBefore a b = (a.rule < b.rule) ⊎ ((a.rule ≡ b.rule) × IsSquareBefore a.square b.square)

-- a good gate over the nets of its cell: its kind; twice its width and its length in squares, of a
-- diode its squares and twice its edges; and the nets of its terminals, as a device's
pub record GateRow : Type 0 where
  pub kind : DeviceKind
  pub twice_w : ℕ
  pub twice_l : ℕ
  pub ends : Ends ℕ
  pub others : List ℕ

-- the device of this rule, with these sizes
abbrev pub device_by : Rule → List ℕ → GateRow → Row ℕ
device_by u sizes row = record {
  kind = row.kind;
  class = u.class;
  sizes = sizes;
  ends = row.ends;
  others = row.others;
}

-- sizes as they are counted
abbrev pub counted_device : Rule → GateRow → Row ℕ
counted_device u row = device_by u (row.twice_l ∷ row.twice_w ∷ []) row

-- the nets of its terminals
abbrev pub gate_nets : GateRow → List ℕ
gate_nets row = nets_of row.ends row.others

-- the verdict on a gate
pub data Verdict : Type 0 where
  Good : (row : GateRow) → Verdict
  Bad : (cause : GateCause) → Verdict

-- and those of a good gate's terminals
abbrev pub verdict_nets : Verdict → List ℕ
verdict_nets (Good row) = gate_nets row
verdict_nets (Bad cause) = []

-- a gate of a cell's list, by its least square
pub record GateEntry : Type 0 where
  pub at : GateSquare
  pub verdict : Verdict

-- the row of a good gate: it has its rule's kind and the terminals of that, each on the net of a
-- node of the terminal; its first end is the group with the least square
pub record IsGateRow (d : Design) (w : Wiring) (t : Tables) (u : Rule) (cell : ℕ) (s : Square)
    (row : GateRow) : Type 0 where
  pub sides : Sides
  pub good : IsGoodGate d w u cell s sides row.twice_w row.twice_l
  pub first : IsSourceFirst d w u cell s sides
  pub kind : row.kind ≡ u.kind
  pub formed : IsFormed (counted_device u row)
  pub nets : (terminal : Terminal) (x : ℕ) → IsAt terminal (counted_device u row) x
      → (n : Node) × IsTerminalNode d w u cell s sides terminal n × NetHolds d t cell x n

abbrev pub IsVerdict : Design → Wiring → Tables → Rule → ℕ → Square → Verdict → Type 0
IsVerdict d w t u cell s (Good row) = IsGateRow d w t u cell s row
IsVerdict d w t u cell s (Bad cause) = IsBadGate d w u cell s cause

-- the entry is right: a gate of the cell's list, under its least square
pub record IsGateEntry (d : Design) (w : Wiring) (t : Tables) (rules : List Rule) (cell : ℕ)
    (x : GateEntry) : Type 0 where
  pub rule : Rule
  pub is : slice_get rules x.at.rule ≡ Some rule
  pub gate : IsListedGate d (geometry w rule) cell x.at.square
  pub least : IsLeast (InGate d (geometry w rule) cell x.at.square) x.at.square
  pub verdict : IsVerdict d w t rule cell x.at.square x.verdict

-- over right nets, the gates of the cell's list, each once, in order; and of a settled gate it is
-- known whether it is one of these or comes from below
pub record AreGates (d : Design) (w : Wiring) (t : Tables) (rules : List Rule) (cell : ℕ)
    (v : List GateEntry) : Type 0 where
  pub each : (x : GateEntry) → IsListed x v → IsGateEntry d w t rules cell x
  pub found : (r : ℕ) (u : Rule) (s : Square) → slice_get rules r ≡ Some u
      → IsListedGate d (geometry w u) cell s
      → (x : GateEntry) × IsListed x v × (x.at.rule ≡ r)
      × InGate d (geometry w u) cell s x.at.square
  pub rising : AreRising (λ x y. IsGateBefore x.at y.at) v
  pub parted : (r : ℕ) (u : Rule) (s : Square) → slice_get rules r ≡ Some u
      → IsSettled d (geometry w u) cell s
      → IsListedGate d (geometry w u) cell s ⊎ IsGateBelow d (geometry w u) cell s

-- a good gate of a list
pub record GoodGate : Type 0 where
  pub at : GateSquare
  pub row : GateRow

abbrev pub with_good : GateSquare → Verdict → List GoodGate → List GoodGate
with_good at (Good row) gates = record { at = at; row = row } ∷ gates
with_good at (Bad cause) gates = gates

-- the good gates, in order
abbrev pub good_gates : List GateEntry → List GoodGate
good_gates [] = []
good_gates (x ∷ xs) = with_good x.at x.verdict (good_gates xs)

-- a bad gate of a list, with the cell whose list it is
pub record BadGate : Type 0 where
  pub cell : ℕ
  pub at : GateSquare
  pub cause : GateCause

abbrev pub with_bad : ℕ → GateSquare → Verdict → List BadGate → List BadGate
with_bad cell at (Good row) bad = bad
with_bad cell at (Bad cause) bad = record { cell = cell; at = at; cause = cause } ∷ bad

-- the bad gates of a cell's list, in its order
abbrev pub bad_gates : ℕ → List GateEntry → List BadGate
bad_gates cell [] = []
bad_gates cell (x ∷ xs) = with_bad cell x.at x.verdict (bad_gates cell xs)

-- the bad gates of these cells, cell by cell
abbrev pub all_bad_gates : (ℕ → List GateEntry) → List ℕ → List BadGate
all_bad_gates gates [] = []
all_bad_gates gates (cell ∷ cells) = bad_gates cell (gates cell) ++ all_bad_gates gates cells

-- the bad gates of the design: of each reached cell, the cells in the design's order
abbrev pub AreBadGates : Design → (ℕ → ℕ) → (ℕ → List GateEntry) → List BadGate → Type 0
AreBadGates d level gates bad =
    (cells : List ℕ) × IsOrder d level cells × (bad ≡ all_bad_gates gates cells)
