-- The gates of the cells' lists, seen from the top along all paths, are the gates of the flat top,
-- each once.
use Rattle.std.specs.Prelude.{◌≡◌, ℕ, List, Some, slice_get}
use Rattle.flat_layout.specs.Gates.{Sides, Rule, geometry, InGate, IsGoodGate, IsBadGate}
use Rattle.flat_layout.specs.Gates.{IsTerminalNode}
use Rattle.flat_layout.specs.GateTables.{AreGates, Bad, GateEntry, GateRow, Good, IsGateRow}
use Rattle.flat_layout.specs.GateTables.{Verdict}
use Rattle.flat_layout.specs.Layers.{InFlat}
use Rattle.flat_layout.specs.Layout.{Design, IsHeight, IsReached, Leads, Takes}
use Rattle.flat_layout.specs.Nets.{Tables}
use Rattle.flat_layout.specs.Regions.{Wiring, Node, At, Ground}
use Rattle.geo_base.specs.declared.shapes.Square.{Square}
use Rattle.plain_netlist.specs.Lists.{IsListed}
use Rattle.plain_netlist.specs.Devices.{Terminal}
use Rattle.flat_layout.specs.declared.cause.GateCause.{GateCause}

-- the path takes a node of its end to a node: a square as it takes squares, a global to itself
abbrev pub TakesNode : Design → ℕ → List ℕ → ℕ → Node → Node → Type 0
TakesNode d from path to (At c s) (At e q) = (c ≡ e) × Takes d from path to s q
TakesNode d from path to (At c s) (Ground g) = ⊥
TakesNode d from path to (Ground g) (At e q) = ⊥
TakesNode d from path to (Ground g) (Ground h) = Leads d from path to × (g ≡ h)

-- a gate in the list of the path's end, whose square the path takes to this square of the top
pub record ShowsGate (d : Design) (gates : ℕ → List GateEntry) (path : List ℕ) (end : ℕ)
    (x : GateEntry) (q : Square) : Type 0 where
  pub listed : IsListed x (gates end)
  pub takes : Takes d d.top path end x.at.square q

-- a good gate of the end has its row's sizes also in the flat top, and the nodes of each of its
-- terminals, taken there, are those of the flat gate's
pub record IsGoodAbove (d : Design) (w : Wiring) (t : Tables) (u : Rule) (path : List ℕ)
    (end : ℕ) (s : Square) (row : GateRow) (q : Square) : Type 0 where
  pub here : IsGateRow d w t u end s row
  pub sides : Sides
  pub good : IsGoodGate d w u d.top q sides row.twice_w row.twice_l
  pub up : (terminal : Terminal) (n : Node) → IsTerminalNode d w u end s here.sides terminal n
      → (m : Node) × TakesNode d d.top path end n m
      × IsTerminalNode d w u d.top q sides terminal m
  pub down : (terminal : Terminal) (m : Node) → IsTerminalNode d w u d.top q sides terminal m
      → (n : Node) × TakesNode d d.top path end n m
      × IsTerminalNode d w u end s here.sides terminal n

-- the verdict on the gate in its list is that on the flat gate
abbrev pub IsVerdictAbove : Design → Wiring → Tables → Rule → List ℕ → ℕ → Square → Verdict → Square
    → Type 0
IsVerdictAbove d w t u path end s (Good row) q = IsGoodAbove d w t u path end s row q
IsVerdictAbove d w t u path end s (Bad cause) q =
    IsBadGate d w u end s cause × IsBadGate d w u d.top q cause

-- by these images, the gates of all lists are the gates of the flat top, each once; good ones with
-- their sizes are the good ones, bad ones with their causes the bad ones
pub record AreFlatGates (d : Design) (w : Wiring) (t : Tables) (rules : List Rule)
    (gates : ℕ → List GateEntry) : Type 0 where
  pub each : (path : List ℕ) (end : ℕ) (x : GateEntry) (q : Square)
      → ShowsGate d gates path end x q
      → (u : Rule) × (slice_get rules x.at.rule ≡ Some u) × InFlat d d.top u.gate q
      × IsVerdictAbove d w t u path end x.at.square x.verdict q
  pub found : (r : ℕ) (u : Rule) (s : Square) → slice_get rules r ≡ Some u
      → InFlat d d.top u.gate s
      → (path : List ℕ) × (end : ℕ) × (x : GateEntry) × (q : Square)
      × ShowsGate d gates path end x q × (x.at.rule ≡ r) × InGate d (geometry w u) d.top s q
  pub once : (u : Rule) (path other : List ℕ) (end its_end : ℕ) (x y : GateEntry) (q p : Square)
      → ShowsGate d gates path end x q → ShowsGate d gates other its_end y p
      → x.at.rule ≡ y.at.rule → slice_get rules x.at.rule ≡ Some u
      → InGate d (geometry w u) d.top q p → (path ≡ other) × (x ≡ y)
  pub good : (u : Rule) (path : List ℕ) (end : ℕ) (x : GateEntry) (q : Square) (sides : Sides)
      (m n : ℕ) → ShowsGate d gates path end x q → slice_get rules x.at.rule ≡ Some u
      → IsGoodGate d w u d.top q sides m n
      → (row : GateRow) × (x.verdict ≡ Good row) × (row.twice_w ≡ m) × (row.twice_l ≡ n)
  pub bad : (u : Rule) (path : List ℕ) (end : ℕ) (x : GateEntry) (q : Square) (c : GateCause)
      → ShowsGate d gates path end x q → slice_get rules x.at.rule ≡ Some u
      → IsBadGate d w u d.top q c → x.verdict ≡ Bad c

-- right lists of gates are the flat gates
abbrev pub FlatGatesLaw : Type 0
FlatGatesLaw = (d : Design) (w : Wiring) (t : Tables) (rules : List Rule)
    (gates : ℕ → List GateEntry) (height : ℕ → ℕ) → IsHeight d height
    → ((cell : ℕ) → IsReached d cell → AreGates d w t rules cell (gates cell))
    → AreFlatGates d w t rules gates
