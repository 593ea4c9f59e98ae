-- What follows from an answer.
use Rattle.std.proofs.Common.{◌≡◌, ◌⊎◌, inl, inr, ℕ, Some, None, sym, subst, ◌∙◌, ap, arith}
use Rattle.round_laws.specs.Web.{on_left}
use Rattle.round_laws.specs.Nodes.{Node, Layout, Schematic}
use Rattle.round_laws.specs.Guesses.{Search as Tree, HasEnded, HasFound, HasStopped, IsWholeSearch}
use Rattle.round_laws.proofs.Agree.{count_same}
use Rattle.round_laws.proofs.Guesses.{enough}
use Rattle.round_laws.proofs.Unique.{one_search, same_stable}
use Rattle.match_laws.specs.Circuits.{AreMatched, IsFitting, Pair, web_of}
use Rattle.match_laws.specs.Answer.{DiffersInRound, IsAnswer, equal_names, setting_of}
use Rattle.match_laws.proofs.Answer.{differs, matched, uneven_differs}
use Rattle.match_laws.proofs.Images.{nodes_there, web_good}
use Rattle.match_types.specs.declared.answer.Answer.{Answer}
use Rattle.match_types.specs.declared.answer.Answer.TheVariants as answer
use Rattle.match_types.specs.declared.answer.Evidence.TheVariants as evidence
use Rattle.match_types.specs.Plain.{plain_answer, plain_evidence, plain_pairing}
use Rattle.refine_match.specs.Matching.{AreSingleClasses, CarriesPairing, ExcludesPairings, HaveUnevenDevices, IsDecided, IsDifference, IsEnough, IsUndecided}
use Rattle.refine_match.proofs.DeviceCounts.{uneven_device}

pub carries : (p : Pair) (limit : ℕ) (a : Answer) → IsFitting p Layout → IsFitting p Schematic → IsAnswer p (equal_names p) limit (plain_answer a) → CarriesPairing p a
carries p limit (answer.Match f) l r h = matched p (equal_names p) limit (plain_pairing f) l r h
carries p limit (answer.Differs e) l r h = tt
carries p limit (answer.Undecided gs) l r h = tt
carries p limit (answer.Skipped q) l r h = tt

pub excludes : (p : Pair) (limit : ℕ) (a : Answer) → IsFitting p Layout → IsFitting p Schematic → IsAnswer p (equal_names p) limit (plain_answer a) → ExcludesPairings p a
excludes p limit (answer.Match f) l r h = tt
excludes p limit (answer.Differs (evidence.Round round n m k)) l r h = λ f c. differs p (equal_names p) limit (plain_evidence (evidence.Round round n m k)) f l r h tt c
excludes p limit (answer.Differs (evidence.Tree gs)) l r h = λ f c. differs p (equal_names p) limit (plain_evidence (evidence.Tree gs)) f l r h tt c
excludes p limit (answer.Undecided gs) l r h = tt
excludes p limit (answer.Skipped q) l r h = tt

-- an answer that is a difference in a round
in_round : (a : Answer) (r : ℕ) (c : Node) (m n : ℕ) → plain_answer a ≡ DiffersInRound r c m n → IsDifference a
in_round (answer.Match f) r c m n e = cc
in_round (answer.Differs d) r c m n e = tt
in_round (answer.Undecided gs) r c m n e = cc
in_round (answer.Skipped q) r c m n e = cc

pub uneven_answer : (p : Pair) (limit : ℕ) (a : Answer) → HaveUnevenDevices p → IsAnswer p (equal_names p) limit (plain_answer a) → IsDifference a
uneven_answer p limit a u h =
    let c = uneven_device p u in
    let d = uneven_differs p (equal_names p) limit (plain_answer a) c.0 h c.1 in
    in_round a 0 d.0 d.1 d.2 d.3

pub single_answer : (p : Pair) (limit : ℕ) (a : Answer) → IsFitting p Layout → IsFitting p Schematic → AreMatched p → AreSingleClasses (web_of p) → IsAnswer p (equal_names p) limit (plain_answer a) → IsDecided a
single_answer p limit (answer.Match f) l r all few h = tt
single_answer p limit (answer.Differs e) l r all few h = tt
single_answer p limit (answer.Undecided gs) l r all few h =
    let q = h.whole.chosen in
    let same : on_left (web_of p) h.whole.round h.whole.node ≡ on_left (web_of p) few.0 h.whole.node
    = count_same _ _ (web_of p).left (λ x i. same_stable (web_of p) h.whole.round few.0 (web_good p l r) q.stable few.1 h.whole.node x (inl q.there) (inl i)) in
    let tied = q.tied in
    let one = (few.2 h.whole.node (inl q.there)).0 in
    absurd (omega arith)
single_answer p limit (answer.Skipped q) l r all few h =
    let u = h.1 in
    let m = all u.number u.call u.is in
    let none : p.children u.call.circuit ≡ None = ap p.children u.pair_is ∙ u.none in
    let e : None ≡ Some m.0 = sym none ∙ m.1 in
    cc

-- a search that stopped neither ended nor found
no_stop : (t u : Tree) → u ≡ t → HasStopped u → HasEnded t ⊎ HasFound t → ⊥
no_stop t u e h (inl d) = h.0 (subst HasEnded (sym e) d)
no_stop t u e h (inr f) = h.1 (subst HasFound (sym e) f)

pub enough_answer : (p : Pair) (limit : ℕ) (a : Answer) → IsFitting p Layout → IsFitting p Schematic → IsEnough p limit → IsAnswer p (equal_names p) limit (plain_answer a) → IsUndecided a → ⊥
enough_answer p limit (answer.Match f) l r q h u = u
enough_answer p limit (answer.Differs e) l r q h u = u
enough_answer p limit (answer.Undecided gs) l r q h u =
    let here : IsWholeSearch (setting_of p (equal_names p) limit) q.guesses = enough (setting_of p (equal_names p) q.larger) q.guesses limit q.whole q.ends q.few in
    let one = one_search (setting_of p (equal_names p) limit) h.search q.guesses (web_good p l r) (λ x y i j. (nodes_there p Layout x i).stands ∙ sym (nodes_there p Layout y j).stands) h.whole here in
    no_stop q.guesses h.search one h.end q.ends
enough_answer p limit (answer.Skipped k) l r q h u = u
