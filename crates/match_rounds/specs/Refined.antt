-- What rounds come to.
use Rattle.std.specs.Prelude.{◌<◌, ◌≤◌, ◌-◌, ℕ, Bool, true, false, List, length, take}
use Rattle.round_laws.specs.Web.{Web, IsEven, IsStable, IsRefuted}
use Rattle.round_laws.specs.Colours.{AreColours}
use Rattle.round_laws.specs.Parting.{IsCoarse, IsFine, with_guess}
use Rattle.match_graph.specs.declared.graph.Graph.{Graph}
use Rattle.match_graph.specs.Graph.{left_of, nodes_of}
use Rattle.match_rounds.specs.declared.classes.Classes.{Classes}
use Rattle.match_rounds.specs.declared.refinement.Verdict.{Verdict}
use Rattle.match_rounds.specs.declared.refinement.Verdict.TheVariants as verdict
use Rattle.match_rounds.specs.Classes.{IsPartition, class_count, class_in}
use Rattle.match_rounds.specs.Start.{guess_at, guessed_web, plain_guess}
use Rattle.match_rounds.specs.Rounds.{AreAhead}

-- the classes of a stable round, up to which no round has unequal counts
pub record AreSettled (w : Web ℕ) (c : Classes) : Type 0 where
  pub round : ℕ
  pub stable : IsStable w round
  pub even : (k : ℕ) → k ≤ round → IsEven w k
  pub colours : AreColours w round (class_in c)

-- the classes of the first round that has unequal counts
pub record AreRefuted (w : Web ℕ) (round : ℕ) (c : Classes) : Type 0 where
  pub refuted : IsRefuted w round
  pub colours : AreColours w round (class_in c)

abbrev pub IsVerdict : Web ℕ → Classes → Verdict → Type 0
IsVerdict w c (verdict.Refuted r) = AreRefuted w r c
IsVerdict w c verdict.Stable = AreSettled w c

-- the classes of round k, before which no round has unequal counts
pub record AreRoundsSoFar (g : Graph) (w : Web ℕ) (c : Classes) (k : ℕ) : Type 0 where
  pub partition : IsPartition c (left_of g) (nodes_of g)
  pub ahead : AreAhead g c
  pub colours : AreColours w k (class_in c)
  pub even : (j : ℕ) → j < k → IsEven w j
  pub few : k ≤ class_count c

-- no round that is stable has equal counts alone
abbrev pub HasNoEvenEnd : Web ℕ → Type 0
HasNoEvenEnd w = (k : ℕ) → IsStable w k → IsEven w k → ⊥

-- true: the classes are those of a stable round, and no round has unequal counts; false: some round
-- has
abbrev pub IsResumed : Web ℕ → Classes → Bool → Type 0
IsResumed w c true = AreSettled w c
IsResumed w c false = HasNoEvenEnd w

-- classes between those of all rounds and those before the first one
pub record AreOnTheWay (g : Graph) (w : Web ℕ) (c : Classes) : Type 0 where
  pub partition : IsPartition c (left_of g) (nodes_of g)
  pub ahead : AreAhead g c
  pub coarse : IsCoarse w (class_in c)
  pub fine : IsFine w (class_in c)

-- the guesses but the last
abbrev pub but_last : List (ℕ × ℕ) → List (ℕ × ℕ)
but_last guesses = take (length guesses - 1) guesses

-- the graph under the last guess, which is added to the others
abbrev pub resumed_web : Graph → List (ℕ × ℕ) → Web ℕ
resumed_web g guesses = with_guess (guessed_web g (but_last guesses))
    (plain_guess (guess_at guesses (length guesses - 1)))

-- classes that were settled before the last of these guesses
abbrev pub AreSettledBefore : Graph → List (ℕ × ℕ) → Classes → Type 0
AreSettledBefore g guesses c = AreSettled (guessed_web g (but_last guesses)) c
