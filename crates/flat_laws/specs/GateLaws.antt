-- Gates of a placed cell and of its parent.
use Rattle.std.specs.Prelude.{◌≡◌, ◌⊎◌, ◌↔◌, ℕ, ◌<◌, List, Some, length}
use Rattle.flat_layout.specs.Gates.{Counts, Sides, Geometry, InGate, InOneGroup, InRing}
use Rattle.flat_layout.specs.Gates.{InSide, IsBadGate, IsBorder, IsFound, IsGateBelow, IsGoodGate}
use Rattle.flat_layout.specs.Gates.{IsListedGate, IsLong, IsReadBy, IsSettled, IsSoundGeometry}
use Rattle.flat_layout.specs.Gates.{IsTerminalNode, IsWide, Rule, geometry, moved_sides}
use Rattle.flat_layout.specs.Layers.{InFlat}
use Rattle.flat_layout.specs.Layout.{Design, IsHeight, IsPlaced, IsReached, Place, Takes}
use Rattle.flat_layout.specs.Regions.{Ground, InOneRegion, IsNode, Node, Wiring, kept, formula}
use Rattle.flat_layout.specs.Regions.{ground_of}
use Rattle.geo_base.specs.Motions.{moved_square}
use Rattle.geo_base.specs.declared.shapes.Square.{Square}
use Rattle.plain_netlist.specs.Devices.{Terminal}
use Rattle.flat_layout.specs.declared.cause.GateCause.{GateCause}

-- a rule's geometry reads each layer of the rule
pub record IsReadWhole (w : Wiring) (u : Rule) : Type 0 where
  pub sd : IsReadBy (geometry w u) u.sd
  pub gate : IsSoundGeometry (geometry w u)
  pub well : IsReadBy (geometry w u) u.well
  pub ts : IsReadBy (geometry w u) (formula w u.ts)
  pub tg : IsReadBy (geometry w u) (formula w u.tg)
  pub tb : IsReadBy (geometry w u) (formula w u.tb)

abbrev pub ReadLayersLaw : Type 0
ReadLayersLaw = (w : Wiring) (u : Rule) → IsReadWhole w u

-- the image of a settled gate is a settled gate, with its ring
pub record IsGateKept (d : Design) (g : Geometry) (cell : ℕ) (p : Place) (s : Square) : Type 0 where
  pub settled : IsSettled d g cell (moved_square p.motion s)
  pub squares : (q : Square) → InGate d g cell (moved_square p.motion s) (moved_square p.motion q)
      ↔ InGate d g p.cell s q
  pub ring : (q : Square) → InRing d g cell (moved_square p.motion s) (moved_square p.motion q)
      ↔ InRing d g p.cell s q

abbrev pub KeptGateLaw : Type 0
KeptGateLaw = (d : Design) (g : Geometry) (cell k : ℕ) (p : Place) (s : Square) → IsSoundGeometry g
    → IsReached d cell → IsPlaced d cell k p → IsSettled d g p.cell s → IsGateKept d g cell p s

-- with its sides, groups and sizes, and good or bad for the same cause
pub record IsFormKept (d : Design) (w : Wiring) (u : Rule) (cell : ℕ) (p : Place)
    (s : Square) : Type 0 where
  pub sides : (q : Square) → InSide d w u cell (moved_square p.motion s) (moved_square p.motion q)
      ↔ InSide d w u p.cell s q
  pub groups : (a b : Square) → InOneGroup d w u cell (moved_square p.motion s)
      (moved_square p.motion a) (moved_square p.motion b) ↔ InOneGroup d w u p.cell s a b
  pub wide : (n : ℕ) → Counts (IsWide d w u p.cell s) n
      → Counts (IsWide d w u cell (moved_square p.motion s)) n
  pub long : (n : ℕ) → Counts (IsLong d w u p.cell s) n
      → Counts (IsLong d w u cell (moved_square p.motion s)) n
  pub area : (n : ℕ) → Counts (InGate d (geometry w u) p.cell s) n
      → Counts (InGate d (geometry w u) cell (moved_square p.motion s)) n
  pub border : (n : ℕ) → Counts (IsBorder d w u p.cell s) n
      → Counts (IsBorder d w u cell (moved_square p.motion s)) n
  pub good : (sides : Sides) (m n : ℕ) → IsGoodGate d w u p.cell s sides m n
      → IsGoodGate d w u cell (moved_square p.motion s) (moved_sides p.motion sides) m n
  pub good_back : (sides : Sides) (m n : ℕ)
      → IsGoodGate d w u cell (moved_square p.motion s) (moved_sides p.motion sides) m n
      → IsGoodGate d w u p.cell s sides m n
  pub bad : (c : GateCause) → IsBadGate d w u p.cell s c
      → IsBadGate d w u cell (moved_square p.motion s) c

abbrev pub KeptFormLaw : Type 0
KeptFormLaw = (d : Design) (w : Wiring) (u : Rule) (cell k : ℕ) (p : Place) (s : Square)
    → IsReached d cell → IsPlaced d cell k p → IsSettled d (geometry w u) p.cell s
    → IsFormKept d w u cell p s

-- a settled gate is the image of settled ones through one placement at most
abbrev pub OnePlaceLaw : Type 0
OnePlaceLaw = (d : Design) (g : Geometry) (cell : ℕ) (s : Square) → IsSoundGeometry g
    → IsReached d cell → (a b : IsGateBelow d g cell s) → a.number ≡ b.number

-- each settled gate is the image of one listed gate along one path
abbrev pub GateLaw : Type 0
GateLaw = (d : Design) (g : Geometry) (height : ℕ → ℕ) → IsSoundGeometry g → IsHeight d height
    → ((cell : ℕ) (s : Square) → IsReached d cell → IsSettled d g cell s → IsListedGate d g cell s
    ⊎ IsGateBelow d g cell s)
    → (cell : ℕ) (s : Square) → IsReached d cell → IsSettled d g cell s
    → (f : IsFound d g cell s) × ((h : IsFound d g cell s) → (h.path ≡ f.path)
    × InGate d g f.end f.square h.square)

-- no square of the top is disturbed
abbrev pub TopLaw : Type 0
TopLaw = (d : Design) (g : Geometry) (height : ℕ → ℕ) → IsHeight d height → (s : Square)
    → InFlat d d.top g.region s → IsSettled d g d.top s

-- the nodes of a settled good gate's terminal are kept, and in one region, where the global, if the
-- node is one, is known
abbrev pub TerminalNodeLaw : Type 0
TerminalNodeLaw = (d : Design) (w : Wiring) (u : Rule) (cell : ℕ) (s : Square) (sides : Sides)
    (k l : ℕ) (terminal : Terminal) (m n : Node) → IsReached d cell
    → IsSettled d (geometry w u) cell s → IsGoodGate d w u cell s sides k l
    → ((g : ℕ) → Ground g ≡ m → g < length w.globals)
    → IsTerminalNode d w u cell s sides terminal m → IsTerminalNode d w u cell s sides terminal n
    → IsNode w (kept d w cell) m × InOneRegion w (kept d w cell) m n

-- a terminal's global is that of a conductor
abbrev pub GroundNodeLaw : Type 0
GroundNodeLaw = (d : Design) (w : Wiring) (u : Rule) (cell : ℕ) (s : Square) (sides : Sides)
    (terminal : Terminal) (g : ℕ) → IsTerminalNode d w u cell s sides terminal (Ground g)
    → (c : ℕ) × (ground_of c w.grounds ≡ Some g)

-- a good gate's square lies in the gates' layer
abbrev pub GoodInLaw : Type 0
GoodInLaw = (d : Design) (w : Wiring) (u : Rule) (cell : ℕ) (s : Square) (sides : Sides) (m n : ℕ)
    → IsGoodGate d w u cell s sides m n → InFlat d cell u.gate s

-- a count is one number
abbrev pub OneCountLaw : Type 0
OneCountLaw = (d : Design) (w : Wiring) (u : Rule) (cell : ℕ) (s : Square) (m n : ℕ)
    → (Counts (IsWide d w u cell s) m → Counts (IsWide d w u cell s) n → m ≡ n)
    × (Counts (IsLong d w u cell s) m → Counts (IsLong d w u cell s) n → m ≡ n)
    × (Counts (InGate d (geometry w u) cell s) m → Counts (InGate d (geometry w u) cell s) n
    → m ≡ n)
    × (Counts (IsBorder d w u cell s) m → Counts (IsBorder d w u cell s) n → m ≡ n)

-- so a good gate has one pair of sizes
abbrev pub OneSizesLaw : Type 0
OneSizesLaw = (d : Design) (w : Wiring) (u : Rule) (cell : ℕ) (s : Square) (a b : Sides)
    (m n k l : ℕ) → IsGoodGate d w u cell s a m n → IsGoodGate d w u cell s b k l
    → (m ≡ k) × (n ≡ l)

-- a good gate isn't bad
abbrev pub NotBothLaw : Type 0
NotBothLaw = (d : Design) (w : Wiring) (u : Rule) (cell : ℕ) (s : Square) (sides : Sides) (m n : ℕ)
    (c : GateCause) → IsGoodGate d w u cell s sides m n → IsBadGate d w u cell s c → ⊥

-- and a bad one has one cause
abbrev pub OneCauseLaw : Type 0
OneCauseLaw = (d : Design) (w : Wiring) (u : Rule) (cell : ℕ) (s : Square) (a b : GateCause)
    → IsBadGate d w u cell s a → IsBadGate d w u cell s b → a ≡ b

-- a gate is good, or bad for a cause, by each of its squares
abbrev pub SameGateLaw : Type 0
SameGateLaw = (d : Design) (w : Wiring) (u : Rule) (cell : ℕ) (s q : Square)
    → InGate d (geometry w u) cell s q
    → ((sides : Sides) (m n : ℕ) → IsGoodGate d w u cell s sides m n
    → IsGoodGate d w u cell q sides m n)
    × ((c : GateCause) → IsBadGate d w u cell s c → IsBadGate d w u cell q c)

-- the image of a settled bad gate along a path is bad for the same cause
abbrev pub CauseAlongLaw : Type 0
CauseAlongLaw = (d : Design) (w : Wiring) (u : Rule) (path : List ℕ) (cell end : ℕ) (s q : Square)
    (c : GateCause) → IsReached d cell → Takes d cell path end s q
    → IsSettled d (geometry w u) end s
    → IsBadGate d w u end s c → IsBadGate d w u cell q c
