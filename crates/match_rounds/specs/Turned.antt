-- How many ends a node has at the members of a class.
use Rattle.std.specs.Prelude.{◌≡◌, ◌≢◌, ◌<◌, ◌==◌, ℕ, true, List, length, map, slice_index}
use Rattle.std.specs.List.{flat_map, list_any}
use Rattle.round_laws.specs.Web.{Port}
use Rattle.round_laws.specs.Colours.{ends_of}
use Rattle.match_graph.specs.declared.graph.Graph.{Graph}
use Rattle.match_graph.specs.Graph.{IsGraph, plain_end, ends_at, nodes_of}

-- the list has the nodes of colour c among the first n, each once
pub record AreAllOf (colour : ℕ → ℕ) (c : ℕ) (members : List ℕ) (n : ℕ) : Type 0 where
  pub below : (i : ℕ) → i < length members → slice_index members i < n
  pub class : (i : ℕ) → i < length members → colour (slice_index members i) ≡ c
  pub found : (a : ℕ) → a < n → colour a ≡ c → list_any (λ x. x == a) members ≡ true
  pub once : (i j : ℕ) → i < length members → j < i → slice_index members j ≢ slice_index members i

-- a node stands as often among the ends of a class's members as it has ends at them
abbrev pub TouchLaw : Type 0
TouchLaw = (g : Graph) (colour : ℕ → ℕ) (c : ℕ) (members : List ℕ) → IsGraph g
    → AreAllOf colour c members (nodes_of g)
    → (a : ℕ) (port : Port) → a < nodes_of g
    → ends_of (λ x. x) port a (map plain_end (flat_map (ends_at g) members))
    ≡ ends_of colour port c (map plain_end (ends_at g a))
