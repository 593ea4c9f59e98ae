-- The answer of a pair of circuits: match, difference with its evidence, undecided, skipped; and
-- what each answer says.
use Rattle.std.specs.Prelude.{◌≡◌, ◌⊎◌, ◌<◌, ◌≤◌, ℕ, Bool, false, List, [], Option, Some, None}
use Rattle.std.specs.Prelude.{slice_get, bytes_eq}
use Rattle.round_laws.specs.Web.{Web, on_left, on_right, IsEven, IsUneven, IsSolved, Guess, under}
use Rattle.round_laws.specs.Web.{mate}
use Rattle.round_laws.specs.Nodes.{Node, Side, Layout, Schematic, Kind, Net, Device, Call}
use Rattle.round_laws.specs.Guesses.{Setting, Search, HasEnded, HasFound, HasStopped}
use Rattle.round_laws.specs.Guesses.{solved_guesses, refuted_in, IsWholeSearch, Row, rows}
use Rattle.plain_netlist.specs.Netlist.{CallRow}
use Rattle.match_laws.specs.Circuits.{Pair, circuit_of, web_of, Pairing, AreMatched, pairing_of}
use Rattle.match_laws.specs.Circuits.{IsFitting, IsCorrespondence}

-- a correspondence; the first round with unequal counts, the least node that shows it and both
-- counts; all guesses, where each ended; the guesses, where the limit stopped them; or the first
-- called pair that isn't matched
pub data Answer : Type 0 where
  Match : (pairing : Pairing) → Answer
  DiffersInRound : (round : ℕ) (node : Node) (left right : ℕ) → Answer
  DiffersByTree : (guesses : List Row) → Answer
  Undecided : (guesses : List Row) → Answer
  Skipped : (pair : ℕ) → Answer

-- devices before calls before nets
abbrev pub evidence_rank : Kind → ℕ
evidence_rank Device = 0
evidence_rank Call = 1
evidence_rank Net = 2

-- the layout before the schematic
abbrev pub side_rank : Side → ℕ
side_rank Layout = 0
side_rank Schematic = 1

-- a is b or stands before it: by kind, then side, then number
abbrev pub IsNoLaterNode : Node → Node → Type 0
IsNoLaterNode a b = (evidence_rank a.kind < evidence_rank b.kind)
    ⊎ ((evidence_rank a.kind ≡ evidence_rank b.kind)
    × ((side_rank a.side < side_rank b.side)
    ⊎ ((side_rank a.side ≡ side_rank b.side) × (a.number ≤ b.number))))

-- the first round with unequal counts, and the least node whose class shows it
pub record IsEvidence (w : Web Node) (round : ℕ) (a : Node) (left right : ℕ) : Type 0 where
  pub before : (k : ℕ) → k < round → IsEven w k
  pub uneven : IsUneven w round a
  pub least : (b : Node) → IsUneven w round b → IsNoLaterNode a b
  pub left_is : left ≡ on_left w round a
  pub right_is : right ≡ on_right w round a

-- the first call of the left circuit whose pair isn't matched calls this pair
pub record IsFirstUnmatched (p : Pair) (pair : ℕ) : Type 0 where
  pub number : ℕ
  pub call : CallRow
  pub is : slice_get p.left.calls number ≡ Some call
  pub pair_is : call.circuit ≡ pair
  pub none : p.children pair ≡ None
  pub before : (k : ℕ) (c : CallRow) → k < number → slice_get p.left.calls k ≡ Some c
      → (pins : List ℕ) × (p.children c.circuit ≡ Some pins)

abbrev pub same_bytes : Option (List ℕ) → Option (List ℕ) → Bool
same_bytes (Some a) (Some b) = bytes_eq a b
same_bytes a b = false

-- two nets have equal names; nodes of other kinds have none
abbrev pub equal_names : Pair → Node → Node → Bool
equal_names p a b = elim a.kind [
  | Net ↦ same_bytes (slice_get (circuit_of p a.side).nets a.number)
      (slice_get (circuit_of p b.side).nets b.number)
  | Device ↦ false
  | Call ↦ false
]

-- the search over guesses of the pair
abbrev pub setting_of : Pair → (Node → Node → Bool) → ℕ → Setting
setting_of p same limit = record { web = web_of p; same_name = same; limit = limit }

-- the classes under these guesses are single, and the pairing is theirs
abbrev pub IsPairing : Pair → List (Guess Node) → Pairing → Type 0
IsPairing p guesses f = (solved : IsSolved (under (web_of p) guesses))
    × (f ≡ pairing_of p (mate (under (web_of p) guesses) solved.round))

-- no called pair is unmatched, and the search over guesses has this end and these rows
pub record IsTreeAnswer (p : Pair) (same : Node → Node → Bool) (limit : ℕ) (HasEnd : Search
    → Type 0) (guesses : List Row) : Type 0 where
  pub matched : AreMatched p
  pub search : Search
  pub whole : IsWholeSearch (setting_of p same limit) search
  pub end : HasEnd search
  pub rows_are : guesses ≡ rows 1 whole.node search

-- the search over guesses found this pairing
pub record IsFound (p : Pair) (same : Node → Node → Bool) (limit : ℕ) (f : Pairing) : Type 0 where
  pub search : Search
  pub whole : IsWholeSearch (setting_of p same limit) search
  pub found : HasFound search
  pub pairing : IsPairing p (solved_guesses [] whole.node search) f

-- the answer of the pair, in this order: unequal counts in round 0, a called pair that isn't
-- matched, unequal counts in a later round, single classes, guesses
abbrev pub IsAnswer : Pair → (Node → Node → Bool) → ℕ → Answer → Type 0
IsAnswer p same limit (DiffersInRound r a m n) = IsEvidence (web_of p) r a m n
    × ((r ≡ 0) ⊎ AreMatched p)
IsAnswer p same limit (Skipped q) = IsEven (web_of p) 0 × IsFirstUnmatched p q
IsAnswer p same limit (Match f) = AreMatched p × (IsPairing p [] f ⊎ IsFound p same limit f)
IsAnswer p same limit (DiffersByTree gs) = IsTreeAnswer p same limit HasEnded gs
IsAnswer p same limit (Undecided gs) = IsTreeAnswer p same limit HasStopped gs

-- a match carries a correspondence
abbrev pub MatchedLaw : Type 0
MatchedLaw = (p : Pair) (same : Node → Node → Bool) (limit : ℕ) (f : Pairing) → IsFitting p Layout
    → IsFitting p Schematic → IsAnswer p same limit (Match f) → IsCorrespondence p f

-- the answers that say that the circuits differ
abbrev pub IsDifference : Answer → Type 0
IsDifference (Match f) = ⊥
IsDifference (DiffersInRound r a m n) = Unit {0}
IsDifference (DiffersByTree gs) = Unit {0}
IsDifference (Undecided gs) = ⊥
IsDifference (Skipped q) = ⊥

-- so the pair has no correspondence that keeps the children's pins
abbrev pub DiffersLaw : Type 0
DiffersLaw = (p : Pair) (same : Node → Node → Bool) (limit : ℕ) (a : Answer) (f : Pairing)
    → IsFitting p Layout → IsFitting p Schematic → IsAnswer p same limit a → IsDifference a
    → IsCorrespondence p f → ⊥

-- the pair, its children and the limit determine the answer
abbrev pub OneAnswerLaw : Type 0
OneAnswerLaw = (p : Pair) (same : Node → Node → Bool) (limit : ℕ) (a b : Answer)
    → IsFitting p Layout → IsFitting p Schematic → IsAnswer p same limit a → IsAnswer p same limit b
    → a ≡ b

-- unequal counts in round 0 are a difference there, whatever the children are
abbrev pub UnevenLaw : Type 0
UnevenLaw = (p : Pair) (same : Node → Node → Bool) (limit : ℕ) (answer : Answer) (c : Node)
    → IsAnswer p same limit answer → IsUneven (web_of p) 0 c
    → (a : Node) × (m : ℕ) × (n : ℕ) × (answer ≡ DiffersInRound 0 a m n)

-- single stable classes are a match, where each called pair is matched
abbrev pub SingleLaw : Type 0
SingleLaw = (p : Pair) (same : Node → Node → Bool) (limit : ℕ) (answer : Answer)
    → IsFitting p Layout → IsFitting p Schematic → IsAnswer p same limit answer
    → AreMatched p → IsSolved (web_of p) → (f : Pairing) × (answer ≡ Match f)

-- undecided means that as many guesses ended refuted as the limit says
abbrev pub UndecidedLaw : Type 0
UndecidedLaw = (p : Pair) (same : Node → Node → Bool) (limit : ℕ) (guesses : List Row)
    → IsAnswer p same limit (Undecided guesses)
    → (search : Search) × (whole : IsWholeSearch (setting_of p same limit) search)
    × (guesses ≡ rows 1 whole.node search) × (refuted_in search ≡ limit)
