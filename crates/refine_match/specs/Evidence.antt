-- The node that shows unequal counts.
use Rattle.std.specs.Prelude.{◌≡◌, ◌⊎◌, ◌<◌, ◌≤◌, ℕ}
use Rattle.round_laws.specs.Nodes.{Kind, Net, Device, Call}
use Rattle.match_laws.specs.Circuits.{Pair, web_of}
use Rattle.match_laws.specs.Answer.{IsEvidence}
use Rattle.match_types.specs.declared.answer.Evidence.{Evidence}
use Rattle.match_types.specs.declared.answer.Evidence.TheVariants as evidence
use Rattle.match_types.specs.Plain.{plain_node}
use Rattle.match_graph.specs.declared.graph.Graph.{Graph}
use Rattle.match_graph.specs.declared.sizes.Sizes.{Sizes}
use Rattle.match_graph.specs.Numbering.{count_in, place_in}
use Rattle.match_rounds.specs.declared.classes.Classes.{Classes}
use Rattle.refine_match.specs.Classes.{IsOfUneven}

-- the classes of these nodes have as many nodes on both sides
abbrev pub AreEvenFrom : Graph → Classes → ℕ → ℕ → Type 0
AreEvenFrom g c from to = (a : ℕ) → from ≤ a → a < to → IsOfUneven g c a → ⊥

-- the first of these nodes whose class has not
pub record IsFirstUneven (g : Graph) (c : Classes) (from to node : ℕ) : Type 0 where
  pub low : from ≤ node
  pub high : node < to
  pub uneven : IsOfUneven g c node
  pub before : AreEvenFrom g c from node

-- where the nodes of a kind begin and end
abbrev pub begin_of : Sizes → Kind → ℕ
begin_of s kind = place_in s kind 0

abbrev pub stop_of : Sizes → Kind → ℕ
stop_of s kind = place_in s kind (count_in s kind)

-- the classes of a kind's nodes have as many nodes on both sides
pub record IsEvenKind (g : Graph) (c : Classes) (kind : Kind) : Type 0 where
  pub left : AreEvenFrom g c (begin_of g.left kind) (stop_of g.left kind)
  pub right : AreEvenFrom g c (begin_of g.right kind) (stop_of g.right kind)

-- the first node of a kind, left ones before right ones, whose class has not
abbrev pub IsFirstOfKind : Graph → Classes → Kind → ℕ → Type 0
IsFirstOfKind g c kind node =
    IsFirstUneven g c (begin_of g.left kind) (stop_of g.left kind) node
    ⊎ (AreEvenFrom g c (begin_of g.left kind) (stop_of g.left kind)
    × IsFirstUneven g c (begin_of g.right kind) (stop_of g.right kind) node)

-- devices before calls before nets
abbrev pub IsLeastUneven : Graph → Classes → ℕ → Type 0
IsLeastUneven g c node =
    IsFirstOfKind g c Device node
    ⊎ ((IsEvenKind g c Device × IsFirstOfKind g c Call node)
    ⊎ (IsEvenKind g c Device × IsEvenKind g c Call × IsFirstOfKind g c Net node))

-- the evidence is that of this round
abbrev pub IsRoundEvidence : Pair → ℕ → Evidence → Type 0
IsRoundEvidence p round (evidence.Round r node left right) = (r ≡ round)
    × IsEvidence (web_of p) round (plain_node node) left right
IsRoundEvidence p round (evidence.Tree guesses) = ⊥
