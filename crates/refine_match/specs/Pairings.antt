-- The right nodes that stand with the left ones.
use Rattle.std.specs.Prelude.{◌≡◌, ◌<◌, ℕ, List, length, slice_index}
use Rattle.round_laws.specs.Web.{Guess, IsSolved, mate, under}
use Rattle.round_laws.specs.Nodes.{Node, Kind}
use Rattle.round_laws.specs.Colours.{AreColours}
use Rattle.match_laws.specs.Circuits.{Pair, Pairing, pairing_of, web_of}
use Rattle.match_graph.specs.declared.graph.Graph.{Graph}
use Rattle.match_graph.specs.Graph.{IsGraphOf, IsNumbered}
use Rattle.match_graph.specs.Numbering.{count_in, place_in}
use Rattle.match_rounds.specs.declared.classes.Classes.{Classes}
use Rattle.refine_match.specs.Classes.{class_of_node}
use Rattle.refine_match.specs.Choosing.{IsMate}

-- the k-th left node of the kind stands with the right node of this number
pub record IsMateOf (g : Graph) (c : Classes) (kind : Kind) (k number : ℕ) : Type 0 where
  pub other : ℕ
  pub mate : IsMate g c (place_in g.left kind k) other
  pub number_is : (p : Pair) → IsGraphOf p g → (a : Node) × IsNumbered p other a
      × (a.number ≡ number)

-- so do all of them
pub record AreMatesOf (g : Graph) (c : Classes) (kind : Kind) (mates : List ℕ) : Type 0 where
  pub count : length mates ≡ count_in g.left kind
  pub each : (k : ℕ) → k < count_in g.left kind → IsMateOf g c kind k (slice_index mates k)

-- where the classes are single ones of a stable round, the pairing is theirs
abbrev pub IsPairingOf : Pair → List (Guess Node) → Classes → Pairing → Type 0
IsPairingOf p guesses c f = (solved : IsSolved (under (web_of p) guesses))
    → AreColours (under (web_of p) guesses) solved.round (class_of_node p c)
    → f ≡ pairing_of p (mate (under (web_of p) guesses) solved.round)
