-- What the rounds alone decide.
use Rattle.std.specs.Prelude.{◌≡◌, ℕ, Bool, [], Option, Some, None}
use Rattle.round_laws.specs.Nodes.{Node}
use Rattle.match_laws.specs.Circuits.{Pair, AreMatched}
use Rattle.match_laws.specs.Answer.{IsAnswer}
use Rattle.match_types.specs.Plain.{plain_answer}
use Rattle.match_graph.specs.declared.graph.Graph.{Graph}
use Rattle.match_graph.specs.Graph.{left_of, nodes_of}
use Rattle.match_rounds.specs.declared.classes.Classes.{Classes}
use Rattle.match_rounds.specs.declared.refinement.Verdict.{Verdict}
use Rattle.match_rounds.specs.declared.refinement.Verdict.TheVariants as verdict
use Rattle.match_rounds.specs.Classes.{IsPartition}
use Rattle.match_rounds.specs.Refined.{AreSettled}
use Rattle.match_rounds.specs.Start.{guessed_web}
use Rattle.refine_match.specs.Choosing.{AreUntied, IsLeastTied}
use Rattle.refine_match.specs.Rights.{AreListsOf}
use Rattle.refine_match.specs.declared.lists.Lists.{Lists}
use Rattle.refine_match.specs.declared.by_rounds.Rounds.{Rounds}
use Rattle.refine_match.specs.declared.by_rounds.Rounds.TheVariants as rounds

-- the rounds leave these ties, and this node is guessed first
pub record AreTies (g : Graph) (c : Classes) (l : Lists) (node : ℕ) : Type 0 where
  pub partition : IsPartition c (left_of g) (nodes_of g)
  pub settled : AreSettled (guessed_web g []) c
  pub lists : AreListsOf l g c
  pub least : IsLeastTied g c (left_of g) node

-- the lists of the classes and the left node that is guessed first, or none where none is tied
abbrev pub AreFirstTies : Graph → Classes → Option (Lists × ℕ) → Type 0
AreFirstTies g c (Some ties) = AreListsOf ties.0 g c × IsLeastTied g c (left_of g) ties.1
AreFirstTies g c None = AreUntied g c (left_of g)

-- an answer is that of the pair, whatever equal names and the limit are; ties are left only where
-- each called pair is matched
abbrev pub IsRoundsAnswer : Pair → Graph → Rounds → Type 0
IsRoundsAnswer p g (rounds.Decided answer) = (same : Node → Node → Bool) (limit : ℕ)
    → IsAnswer p same limit (plain_answer answer)
IsRoundsAnswer p g (rounds.Tied classes lists node) = AreMatched p × AreTies g classes lists node

-- the first round has unequal counts
abbrev pub IsFirstRound : Verdict → Type 0
IsFirstRound (verdict.Refuted round) = round ≡ 0
IsFirstRound verdict.Stable = ⊥
