-- The answers of all pairs as a list.
use Rattle.std.specs.Prelude.{◌≡◌, ℕ, Bool, false, true, List, [], map, length, Option, Some, None}
use Rattle.std.specs.Prelude.{slice_index_or}
use Rattle.std.specs.List.{All}
use Rattle.plain_netlist.specs.Flats.{Corresponds, expanded}
use Rattle.plain_netlist.specs.Netlist.{Circuit, Netlist, IsCircuit}
use Rattle.plain_netlist.specs.Sound.{IsGood}
use Rattle.round_laws.specs.Nodes.{Node}
use Rattle.round_laws.specs.Web.{IsUneven}
use Rattle.match_laws.specs.Answer.{Answer, Match, DiffersInRound, DiffersByTree, Undecided}
use Rattle.match_laws.specs.Answer.{Skipped, IsDifference}
use Rattle.match_laws.specs.Circuits.{Pairing, IsCorrespondence, web_of}
use Rattle.align_laws.specs.Cut.{Alignment}
use Rattle.align_laws.specs.Partners.{AreSides, IsAlignedPair, IsPair}
use Rattle.composed_laws.specs.Answered.{AreAnswers, Asked, pair_in, pairing_or}
use Rattle.composed_laws.specs.Matched.{AreDevicesMatched, AreNetsMatched}
use Rattle.job_graph.specs.Table.{AreDefined}
use Rattle.match_types.specs.Answered.{IsPairAnswer, asked_of}
use Rattle.match_types.specs.Plain.{plain_answer}
use Rattle.match_types.specs.declared.answer.Answer as rows
use Rattle.match_types.specs.declared.pair_key.PairKey.{PairKey}
use Rattle.net_model.specs.Rows.{plain_netlist}
use Rattle.pair_jobs.specs.Jobs.{AreCalledJobs}

-- the answer of a pair by its number
abbrev pub answer_at : List Answer → ℕ → Answer
answer_at answers k = slice_index_or answers k (Skipped k)

-- there is an answer for each pair and no other, and each is the pair's, given those of the pairs
-- that its left circuit calls
pub record AreAllAnswers (left right : Netlist) (asked : Asked) (answers : List Answer) : Type 0 where
  pub count : length answers ≡ length left.circuits
  pub each : AreAnswers left right asked (answer_at answers)

-- so are the right results of all jobs
abbrev pub ResultsLaw : Type 0
ResultsLaw = (key : PairKey) (graph : List (List ℕ)) (values : List rows.Answer)
    → AreSides (plain_netlist key.left.value) (plain_netlist key.right.value)
    → IsGood (plain_netlist key.left.value) (λ k. k)
    → AreCalledJobs (plain_netlist key.left.value) graph → AreDefined IsPairAnswer key graph values
    → AreAllAnswers (plain_netlist key.left.value) (plain_netlist key.right.value)
    (asked_of (plain_netlist key.left.value) key.limit.value key.same_pins.value)
    (map plain_answer values)

abbrev pub IsMatch : Answer → Type 0
IsMatch (Match f) = Unit {0}
IsMatch (DiffersInRound r a m n) = ⊥
IsMatch (DiffersByTree gs) = ⊥
IsMatch (Undecided gs) = ⊥
IsMatch (Skipped q) = ⊥

-- the answer is that the circuits differ
abbrev pub is_difference : Answer → Bool
is_difference (Match f) = false
is_difference (DiffersInRound r a m n) = true
is_difference (DiffersByTree gs) = true
is_difference (Undecided gs) = false
is_difference (Skipped q) = false

abbrev pub pairing_in : Option Pairing → Pairing
pairing_in (Some f) = f
pairing_in None = record { nets = []; devices = []; calls = [] }

-- the pairings of the matches
abbrev pub pairings_of : List Answer → ℕ → Pairing
pairings_of answers k = pairing_in (pairing_or (answer_at answers k))

-- where the two sides are the aligned pair of a layout's netlist and a schematic and each answer is
-- a match, the circuits of each pair expand to the same: the pairings take devices to devices of
-- their class and sizes with their terminals, nets with a terminal that are joined to such that
-- are, and pins to pins, one to one and onto
abbrev pub MatchedPairsLaw : Type 0
MatchedPairsLaw = (layout schematic : Netlist) (top right_top : ℕ)
    (same : List (List ℕ × List ℕ)) (left right : Netlist) (v w : Alignment)
    (p : IsAlignedPair layout schematic top right_top same left right v w)
    (asked : Asked) (answers : List Answer)
    → AreAllAnswers left right asked answers → All IsMatch answers
    → (c d : ℕ) → IsPair layout schematic top same right_top c d
    → Corresponds (expanded layout c) (expanded schematic d)
    (AreDevicesMatched layout left right schematic v w p.left_aligned p.right_aligned
    (pairings_of answers) c d)
    (AreNetsMatched layout left right schematic v w p.left_aligned p.right_aligned
    (pairings_of answers) c d)

-- so do the two tops
abbrev pub MatchedTopsLaw : Type 0
MatchedTopsLaw = (layout schematic : Netlist) (top right_top : ℕ)
    (same : List (List ℕ × List ℕ)) (left right : Netlist) (v w : Alignment)
    (p : IsAlignedPair layout schematic top right_top same left right v w)
    (asked : Asked) (answers : List Answer)
    → AreAllAnswers left right asked answers → All IsMatch answers
    → Corresponds (expanded layout top) (expanded schematic right_top)
    (AreDevicesMatched layout left right schematic v w p.left_aligned p.right_aligned
    (pairings_of answers) top right_top)
    (AreNetsMatched layout left right schematic v w p.left_aligned p.right_aligned
    (pairings_of answers) top right_top)

-- a pair that matches carries a correspondence, which keeps the pins of the called pairs
abbrev pub CarriedPairLaw : Type 0
CarriedPairLaw = (left right : Netlist) (asked : Asked) (answers : List Answer) → AreSides left right
    → IsGood left (λ k. k) → AreAllAnswers left right asked answers → (k : ℕ) (c d : Circuit)
    (f : Pairing) → IsCircuit left k c → IsCircuit right k d → answer_at answers k ≡ Match f
    → IsCorrespondence (pair_in (asked.told k) left (answer_at answers) c d) f

-- a pair that has a correspondence which keeps the pins of the called pairs doesn't differ
abbrev pub KeptPairLaw : Type 0
KeptPairLaw = (left right : Netlist) (asked : Asked) (answers : List Answer) → AreSides left right
    → IsGood left (λ k. k) → AreAllAnswers left right asked answers → (k : ℕ) (c d : Circuit)
    (f : Pairing) → IsCircuit left k c → IsCircuit right k d
    → IsCorrespondence (pair_in (asked.told k) left (answer_at answers) c d) f
    → IsDifference (answer_at answers k) → ⊥

-- a pair differs in which what a node is, as a device of a class and of sizes, comes more often on
-- one side than on the other, whatever the called pairs are
abbrev pub UnevenPairLaw : Type 0
UnevenPairLaw = (left right : Netlist) (asked : Asked) (answers : List Answer)
    → AreAllAnswers left right asked answers → (k : ℕ) (c d : Circuit) (a : Node)
    → IsCircuit left k c → IsCircuit right k d
    → IsUneven (web_of (pair_in (asked.told k) left (answer_at answers) c d)) 0 a
    → IsDifference (answer_at answers k)
