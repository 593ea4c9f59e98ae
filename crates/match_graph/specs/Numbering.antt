-- The nodes of two circuits by number: of the left circuit the nets, the devices, the calls, then
-- those of the right one.
use Rattle.std.specs.Prelude.{◌≡◌, ◌+◌, ℕ, length}
use Rattle.plain_netlist.specs.Netlist.{Circuit}
use Rattle.round_laws.specs.Nodes.{Node, Side, Layout, Schematic, Kind, Net, Device, Call}
use Rattle.match_laws.specs.Circuits.{Pair, circuit_of}
use Rattle.match_graph.specs.declared.sizes.Sizes.{Sizes}

abbrev pub end_of : Sizes → ℕ
end_of s = s.first + s.nets + s.devices + s.calls

-- the node with this kind and number
abbrev pub place_in : Sizes → Kind → ℕ → ℕ
place_in s Net k = s.first + k
place_in s Device k = s.first + s.nets + k
place_in s Call k = s.first + s.nets + s.devices + k

-- how many there are of a kind
abbrev pub count_in : Sizes → Kind → ℕ
count_in s Net = s.nets
count_in s Device = s.devices
count_in s Call = s.calls

-- the sizes of a circuit whose nodes are numbered from here on
pub record AreSizesOf (s : Sizes) (first : ℕ) (c : Circuit) : Type 0 where
  pub first_is : s.first ≡ first
  pub nets : s.nets ≡ length c.nets
  pub devices : s.devices ≡ length c.devices
  pub calls : s.calls ≡ length c.calls

-- how many nodes a circuit has
abbrev pub nodes_in : Circuit → ℕ
nodes_in c = length c.nets + length c.devices + length c.calls

abbrev pub first_of_side : Pair → Side → ℕ
first_of_side p Layout = 0
first_of_side p Schematic = nodes_in p.left

abbrev pub first_of_kind : Circuit → Kind → ℕ
first_of_kind c Net = 0
first_of_kind c Device = length c.nets
first_of_kind c Call = length c.nets + length c.devices

-- the number of a node among all nodes
abbrev pub index_of : Pair → Node → ℕ
index_of p a = first_of_side p a.side + first_of_kind (circuit_of p a.side) a.kind + a.number
