-- The answers of all pairs of two sides; and that they compose to a match where each is one.
use Rattle.std.specs.Prelude.{◌≡◌, ◌↔◌, ◌==◌, ℕ, zero, suc, Bool, true, cond, List, length, take}
use Rattle.std.specs.Prelude.{Option, Some, None}
use Rattle.std.specs.List.{list_any}
use Rattle.plain_netlist.specs.Netlist.{Circuit, CallRow, Netlist, IsCircuit}
use Rattle.plain_netlist.specs.Sound.{IsGood}
use Rattle.round_laws.specs.Nodes.{Layout, Schematic}
use Rattle.match_laws.specs.Circuits.{Pair, Pairing, IsFitting}
use Rattle.match_laws.specs.Answer.{Answer, Match, DiffersInRound, DiffersByTree, Undecided}
use Rattle.match_laws.specs.Answer.{Skipped, IsAnswer, equal_names}
use Rattle.align_laws.specs.Lists.{given_of}
use Rattle.align_laws.specs.Partners.{AreSides}
use Rattle.composed_laws.specs.Composed.{IsMatch, IsComparable}

-- the pairing of a match
abbrev pub pairing_or : Answer → Option Pairing
pairing_or (Match f) = Some f
pairing_or (DiffersInRound r a m n) = None
pairing_or (DiffersByTree gs) = None
pairing_or (Undecided gs) = None
pairing_or (Skipped q) = None

-- the right pin of each left pin of a circuit: pins are the first nets of both circuits, so the
-- number of a pin is that of its net
abbrev pub right_pins : Circuit → Option Pairing → Option (List ℕ)
right_pins c (Some f) = Some (take (length c.pins) f.nets)
right_pins c None = None

-- those of each pair that is matched
abbrev pub children_of : Netlist → (ℕ → Answer) → ℕ → Option (List ℕ)
children_of left answers k = right_pins (given_of left k) (pairing_or (answers k))

-- whether circuit c calls pair q
abbrev pub is_called : Circuit → ℕ → Bool
is_called c q = list_any (λ (r : CallRow). r.circuit == q) c.calls

-- those of the pairs that the left circuit calls: one that only the right circuit calls isn't asked
-- for
abbrev pub children_in : Netlist → (ℕ → Answer) → Circuit → ℕ → Option (List ℕ)
children_in left answers c q = cond (is_called c q) (children_of left answers q) None

-- what is asked of all pairs: how many guesses may be refuted, and of which pairs names tell the
-- pins apart
pub record Asked : Type 0 where
  pub limit : ℕ
  pub told : ℕ → Bool

-- the two circuits of a pair, as they are compared
abbrev pub pair_in : Bool → Netlist → (ℕ → Answer) → Circuit → Circuit → Pair
pair_in told left answers c d = record {
  left = c;
  right = d;
  children = children_in left answers c;
  told = told;
}

-- each pair has its answer, given those of the pairs that its left circuit calls
abbrev pub AreAnswers : Netlist → Netlist → Asked → (ℕ → Answer) → Type 0
AreAnswers left right asked answers = (k : ℕ) (c d : Circuit) → IsCircuit left k c
    → IsCircuit right k d
    → IsAnswer (pair_in (asked.told k) left answers c d) (equal_names (pair_in (asked.told k) left answers c d)) asked.limit (answers k)

-- a is the answer of pair k, given answers of the pairs that its left circuit calls, at most n deep
abbrev pub IsAnswerAt : Netlist → Netlist → Asked → ℕ → ℕ → Answer → Type 0
IsAnswerAt left right asked zero k a = ⊥
IsAnswerAt left right asked (suc n) k a = (c : Circuit) × (d : Circuit) × (read : ℕ → Answer)
    × IsCircuit left k c × IsCircuit right k d
    × ((q : ℕ) → is_called c q ≡ true → IsAnswerAt left right asked n q (read q))
    × IsAnswer (pair_in (asked.told k) left read c d) (equal_names (pair_in (asked.told k) left read c d)) asked.limit a

-- the answer of pair k, where children stand before callers: what its job is to give
abbrev pub IsAnswerOf : Netlist → Netlist → Asked → ℕ → Answer → Type 0
IsAnswerOf left right asked k a = IsAnswerAt left right asked (suc k) k a

-- a pair has one answer
abbrev pub OneAnswerOfLaw : Type 0
OneAnswerOfLaw = (left right : Netlist) (asked : Asked) (k : ℕ) (a b : Answer) → AreSides left right
    → IsAnswerOf left right asked k a → IsAnswerOf left right asked k b → a ≡ b

-- what comes of right answers that were read is right, and with them the pair can be compared
abbrev pub ReadAnswersLaw : Type 0
ReadAnswersLaw = (left right : Netlist) (asked : Asked) (k : ℕ) (c d : Circuit) (read : ℕ → Answer)
    → AreSides left right → IsGood left (λ k. k) → IsCircuit left k c → IsCircuit right k d
    → ((q : ℕ) → is_called c q ≡ true → IsAnswerOf left right asked q (read q))
    → IsFitting (pair_in (asked.told k) left read c d) Layout × IsFitting (pair_in (asked.told k) left read c d) Schematic
    × ((a : Answer) → IsAnswer (pair_in (asked.told k) left read c d) (equal_names (pair_in (asked.told k) left read c d)) asked.limit a
    → IsAnswerOf left right asked k a)

-- right answers of all pairs are the answers
abbrev pub TogetherAnswersLaw : Type 0
TogetherAnswersLaw = (left right : Netlist) (asked : Asked) (answers : ℕ → Answer) → AreSides left right
    → IsGood left (λ k. k)
    → AreAnswers left right asked answers
    ↔ ((k : ℕ) (c : Circuit) → IsCircuit left k c → IsAnswerOf left right asked k (answers k))

-- each answer is a match, with these pairings
abbrev pub AreMatches : Netlist → (ℕ → Answer) → (ℕ → Pairing) → Type 0
AreMatches left answers pairings = (k : ℕ) (c : Circuit) → IsCircuit left k c
    → answers k ≡ Match (pairings k)

-- where every answer is a match, the two sides match
abbrev pub AnsweredLaw : Type 0
AnsweredLaw = (left right : Netlist) (asked : Asked) (answers : ℕ → Answer) (pairings : ℕ → Pairing)
    → AreSides left right → AreAnswers left right asked answers → AreMatches left answers pairings
    → IsMatch left right (children_of left answers) pairings
    × IsComparable left (children_of left answers) × IsComparable right (children_of left answers)
