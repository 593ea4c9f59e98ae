-- What follows from the rounds: laws on agreeing, on stable rounds and on correspondences.
use Rattle.std.specs.Prelude.{◌≡◌, ◌≤◌, ℕ, true, List, ◌++◌, length}
use Rattle.std.specs.Cmp.{IsEquivalence}
use Rattle.plain_netlist.specs.Lists.{IsListed}
use Rattle.round_laws.specs.Web.{Web, IsWeb, IsNode, agree, IsEven, IsStable, IsRefuted, IsSolved}
use Rattle.round_laws.specs.Web.{IsWebMap, Guess, under, Keeps, mate}
use Rattle.round_laws.specs.Nodes.{Node}

-- agreeing is an equivalence in each round
abbrev pub EquivalenceLaw : Type 0
EquivalenceLaw = (w : Web Node) → IsWeb w → (k : ℕ) → IsEquivalence (agree w k)

-- a correspondence takes each node to one that agrees with it
abbrev pub AgreeLaw : Type 0
AgreeLaw = (w : Web Node) (f : Node → Node) → IsWeb w → IsWebMap w f → (k : ℕ) (a : Node)
    → IsListed a w.left → agree w k a (f a) ≡ true

-- where a correspondence exists, no class has unequal counts
abbrev pub EvenLaw : Type 0
EvenLaw = (w : Web Node) (f : Node → Node) → IsWeb w → IsWebMap w f → (k : ℕ) → IsEven w k

-- a correspondence that keeps the guesses is one under them, so a refuted list of guesses has none
abbrev pub RefutedLaw : Type 0
RefutedLaw = (w : Web Node) (f : Node → Node) (guesses : List (Guess Node)) (r : ℕ) → IsWeb w
    → IsWebMap w f → Keeps f guesses
    → ((g : Guess Node) → IsListed g guesses → (IsListed g.left w.left) × IsListed g.right w.right)
    → IsRefuted (under w guesses) r → ⊥

-- a stable round stays
abbrev pub StableLaw : Type 0
StableLaw = (w : Web Node) (k j : ℕ) → IsWeb w → IsStable w k → k ≤ j → (a b : Node) → IsNode w a
    → IsNode w b → agree w j a b ≡ agree w k a b

-- some round is stable, no later than there are nodes
abbrev pub FiniteLaw : Type 0
FiniteLaw = (w : Web Node) → IsWeb w → (k : ℕ) × (k ≤ length (w.left ++ w.right)) × IsStable w k

-- where each stable class is one pair, the classes are a correspondence
abbrev pub SolvedLaw : Type 0
SolvedLaw = (w : Web Node) (guesses : List (Guess Node)) → IsWeb w
    → (solved : IsSolved (under w guesses)) → IsWebMap w (mate (under w guesses) solved.round)
