-- The terminals of a circuit's devices and calls as edges.
use Rattle.std.specs.Prelude.{◌≡◌, ◌<◌, ℕ, ◌+◌, suc, List, [], ◌∷◌, ◌++◌, length, map, slice_index}
use Rattle.std.specs.Prelude.{Option, Some, None}
use Rattle.std.specs.Borrow.{Bor}
use Rattle.plain_netlist.specs.Devices.{Ends, NoEnds, Both}
use Rattle.plain_netlist.specs.Netlist.{DeviceRow, CallRow, Circuit}
use Rattle.round_laws.specs.Nodes.{Side, Layout, Schematic}
use Rattle.match_laws.specs.Circuits.{Pair, numbers_from}
use Rattle.match_graph.specs.Numbering.{nodes_in}
use Rattle.match_graph.specs.declared.graph.Port.{Port}
use Rattle.match_graph.specs.declared.graph.Port.TheVariants as port
use Rattle.match_graph.specs.declared.edges.Edge.{Edge}

abbrev pub edge : ℕ → Port → ℕ → Edge
edge owner port net = record { owner = owner; port = port; net = net }

-- the terminals that have a place of their own, from this place on, where the first net of the
-- circuit is this node
abbrev pub other_edges : ℕ → ℕ → ℕ → List ℕ → List Edge
other_edges first owner place [] = []
other_edges first owner place (n ∷ ns) =
    edge owner (port.Other place) (first + n) ∷ other_edges first owner (suc place) ns

-- the terminals of a device in the order of its nets
abbrev pub terminal_edges : ℕ → ℕ → Ends ℕ → List ℕ → List Edge
terminal_edges first owner NoEnds others = other_edges first owner 0 others
terminal_edges first owner (Both a b) [] =
    edge owner port.EitherEnd (first + b) ∷ edge owner port.EitherEnd (first + a) ∷ []
terminal_edges first owner (Both a b) (n ∷ ns) =
    edge owner port.EitherEnd (first + b) ∷ edge owner (port.Other 0) (first + n)
    ∷ edge owner port.EitherEnd (first + a) ∷ other_edges first owner 1 ns

abbrev pub device_edges : ℕ → ℕ → DeviceRow → List Edge
device_edges first owner d = terminal_edges first owner d.ends d.others

-- the right pin that stands for pin i of a called pair, where this is its list
abbrev pub pin_in : Option (List ℕ) → ℕ → ℕ
pin_in None i = i
pin_in (Some pins) i = slice_index pins i

-- the list of a called pair: right pins stand for themselves
abbrev pub pins_on : (ℕ → Option (List ℕ)) → Side → ℕ → Option (List ℕ)
pins_on children Layout pair = children pair
pins_on children Schematic pair = None

-- what the references of a list of pins point to
abbrev pub now_of : Option (Bor (List ℕ)) → Option (List ℕ)
now_of None = None
now_of (Some pins) = Some pins.now

-- a list of pins has this many entries
abbrev pub HavePins : Option (List ℕ) → ℕ → Type 0
HavePins None n = Unit {0}
HavePins (Some pins) n = length pins ≡ n

abbrev pub HasPin : Option (List ℕ) → ℕ → Type 0
HasPin None i = Unit {0}
HasPin (Some pins) i = i < length pins

-- the first n terminals of a call
abbrev pub pin_edges : ℕ → ℕ → Option (List ℕ) → List ℕ → ℕ → List Edge
pin_edges first owner pins nets n =
    map (λ i. edge owner (port.Pin (pin_in pins i)) (first + slice_index nets i)) (numbers_from 0 n)

abbrev pub call_edges : (ℕ → Option (List ℕ)) → Side → ℕ → ℕ → CallRow → List Edge
call_edges children side first owner c =
    pin_edges first owner (pins_on children side c.circuit) c.nets (length c.nets)

-- the terminals of rows whose nodes are numbered from here on
abbrev pub edges_from : {X : Type 0} → (ℕ → X → List Edge) → ℕ → List X → List Edge
edges_from f owner [] = []
edges_from f owner (x ∷ xs) = f owner x ++ edges_from f (suc owner) xs

-- the terminals of a circuit whose nodes are numbered from here on
abbrev pub side_edges : (ℕ → Option (List ℕ)) → Side → ℕ → Circuit → List Edge
side_edges children side first c =
    edges_from (device_edges first) (first + length c.nets) c.devices
    ++ edges_from (call_edges children side first) (first + length c.nets + length c.devices)
    c.calls

-- the terminals of both circuits
abbrev pub pair_edges : Pair → List Edge
pair_edges p = side_edges p.children Layout 0 p.left
    ++ side_edges p.children Schematic (nodes_in p.left) p.right
