-- Classes of the nodes of two circuits under guesses.
use Rattle.std.specs.Prelude.{◌≡◌, ◌≢◌, ◌≤◌, ℕ, List, map}
use Rattle.round_laws.specs.Web.{IsWeb, IsEven, IsStable, Guess, under}
use Rattle.round_laws.specs.Nodes.{Node}
use Rattle.round_laws.specs.Colours.{AreColours}
use Rattle.round_laws.specs.Renamed.{AreOfNodes, renamed_guess}
use Rattle.match_laws.specs.Circuits.{Pair, web_of}
use Rattle.match_graph.specs.declared.graph.Graph.{Graph}
use Rattle.match_graph.specs.Graph.{IsGraphOf}
use Rattle.match_graph.specs.Numbering.{index_of}
use Rattle.match_rounds.specs.declared.classes.Classes.{Classes}
use Rattle.match_rounds.specs.Classes.{class_in}
use Rattle.match_rounds.specs.Sides.{left_members, right_members}
use Rattle.match_rounds.specs.Start.{plain_guess}

-- the guesses of numbers are these guesses of nodes
abbrev pub AreGuessesOf : Pair → List (ℕ × ℕ) → List (Guess Node) → Type 0
AreGuessesOf p numbers guesses = map plain_guess numbers ≡ map (renamed_guess (index_of p)) guesses

-- a graph of a pair, and guesses in both forms
pub record AreTold (p : Pair) (g : Graph) (ns : List (ℕ × ℕ)) (qs : List (Guess Node)) :
    Type 0 where
  pub graph : IsGraphOf p g
  pub good : IsWeb (web_of p)
  pub names : AreGuessesOf p ns qs
  pub there : AreOfNodes (web_of p) qs

-- the class of a node
abbrev pub class_of_node : Pair → Classes → Node → ℕ
class_of_node p c a = class_in c (index_of p a)

-- the class of a node has more nodes on one side than on the other
abbrev pub IsOfUneven : Graph → Classes → ℕ → Type 0
IsOfUneven g c a = left_members g c (class_in c a) ≢ right_members g c (class_in c a)

-- the classes are those of a stable round of the circuits under these guesses, up to which no round
-- has unequal counts
pub record AreStableClasses (p : Pair) (guesses : List (Guess Node)) (c : Classes) : Type 0 where
  pub round : ℕ
  pub stable : IsStable (under (web_of p) guesses) round
  pub even : (k : ℕ) → k ≤ round → IsEven (under (web_of p) guesses) k
  pub colours : AreColours (under (web_of p) guesses) round (class_of_node p c)
