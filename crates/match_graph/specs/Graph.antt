-- Graphs in flat arrays.
use Rattle.std.specs.Prelude.{◌≡◌, ◌<◌, ◌≤◌, ◌+◌, ◌-◌, ◌==◌, ℕ, List, length, map, slice_index}
use Rattle.std.specs.Prelude.{slice_range, nat_eq}
use Rattle.round_laws.specs.Web.{Port as PlainPort, EitherEnd, Other, Pin, End as PlainEnd, Web}
use Rattle.round_laws.specs.Web.{IsWeb, IsNode}
use Rattle.round_laws.specs.Nodes.{Node}
use Rattle.round_laws.specs.Colours.{ends_of}
use Rattle.round_laws.specs.Renamed.{IsRenamed}
use Rattle.match_laws.specs.Circuits.{Pair, numbers_from, web_of}
use Rattle.match_graph.specs.Numbering.{AreSizesOf, end_of, index_of}
use Rattle.match_graph.specs.declared.graph.Port.{Port}
use Rattle.match_graph.specs.declared.graph.Port.TheVariants as port
use Rattle.match_graph.specs.declared.graph.End.{End}
use Rattle.match_graph.specs.declared.graph.Graph.{Graph}

-- a kind of terminal; the pair of a pin is known by the class of its call
abbrev pub plain_port : Port → PlainPort
plain_port port.EitherEnd = EitherEnd
plain_port (port.Other k) = Other k
plain_port (port.Pin i) = Pin 0 i

abbrev pub plain_end : End → PlainEnd ℕ
plain_end e = record { port = plain_port e.port; node = e.node }

-- the kinds of terminals of a pair by these names
abbrev pub port_name : PlainPort → PlainPort
port_name EitherEnd = EitherEnd
port_name (Other k) = Other k
port_name (Pin pair i) = Pin 0 i

-- how many left nodes there are, and how many of both sides
abbrev pub left_of : Graph → ℕ
left_of g = g.right.first

abbrev pub nodes_of : Graph → ℕ
nodes_of g = end_of g.right

-- the ends of a node
abbrev pub ends_at : Graph → ℕ → List End
ends_at g a =
    slice_range g.ends.items (slice_index g.begins.items a) (slice_index g.begins.items (a + 1))

-- the number of a node's kind
abbrev pub kind_at : Graph → ℕ → ℕ
kind_at g a = slice_index g.kinds.items a

-- the graph as a web of numbers
abbrev pub graph_web : Graph → Web ℕ
graph_web g = record {
  left = numbers_from 0 (left_of g);
  right = numbers_from (left_of g) (nodes_of g - left_of g);
  is = nat_eq;
  alike = λ a b. kind_at g a == kind_at g b;
  near = λ a. map plain_end (ends_at g a);
}

-- the arrays are those of a graph: each end stands at both of its nodes
pub record IsGraph (g : Graph) : Type 0 where
  pub first : g.left.first ≡ 0
  pub next : left_of g ≡ end_of g.left
  pub begins : length g.begins.items ≡ nodes_of g + 1
  pub rises : (a : ℕ) → a < nodes_of g
      → slice_index g.begins.items a ≤ slice_index g.begins.items (a + 1)
  pub fits : (a : ℕ) → a < nodes_of g → slice_index g.begins.items (a + 1) ≤ length g.ends.items
  pub kinds : length g.kinds.items ≡ nodes_of g
  pub web : IsWeb (graph_web g)
  pub turned : (a b : ℕ) (port : PlainPort) → a < nodes_of g → b < nodes_of g
      → ends_of (λ x. x) port b (map plain_end (ends_at g a))
      ≡ ends_of (λ x. x) port a (map plain_end (ends_at g b))

-- the graph is that of the pair of circuits, its nodes numbered
pub record IsGraphOf (p : Pair) (g : Graph) : Type 0 where
  pub left : AreSizesOf g.left 0 p.left
  pub right : AreSizesOf g.right (end_of g.left) p.right
  pub graph : IsGraph g
  pub renamed : IsRenamed (web_of p) (graph_web g) (index_of p) port_name

-- the node has this number
pub record IsNumbered (p : Pair) (i : ℕ) (a : Node) : Type 0 where
  pub node : IsNode (web_of p) a
  pub index : index_of p a ≡ i
