-- The pair, its children and the limit determine the answer.
use Rattle.std.proofs.Common.{◌≡◌, ◌⊎◌, inl, inr, ℕ, cond, Bool, List, [], ◌∷◌, map, length, slice_get, refl, sym, subst, ◌∙◌, ap, ap₂, arith}
use Rattle.std.proofs.Math.Decide.{ℕ_discrete}
use Rattle.std.proofs.lemmas.Option.{same_Some, none-some}
use Rattle.plain_netlist.specs.Lists.{IsListed}
use Rattle.round_laws.specs.Web.{Web, IsWeb, on_left, on_right, IsEven, IsUneven, IsRefuted, Guess, under, first_of, mate}
use Rattle.round_laws.specs.Nodes.{Node, Side, Layout, Schematic, Kind, Net, Device, Call}
use Rattle.round_laws.specs.Guesses.{Search, Ended, Stopped, Found, Refuted, Below, Open, HasEnded, HasFound, IsWholeSearch, Row, rows, HasStopped, solved_guesses}
use Rattle.plain_netlist.specs.Netlist.{CallRow}
use Rattle.match_laws.specs.Circuits.{Pair, web_of, numbers_from, node, nodes, Pairing, IsFitting, AreMatched, numbers_of, pairing_of}
use Rattle.match_laws.specs.Answer.{Answer, Match, DiffersInRound, DiffersByTree, Undecided, Skipped, evidence_rank, side_rank, IsNoLaterNode, IsEvidence, IsFirstUnmatched, setting_of, IsPairing, IsTreeAnswer, IsFound, IsAnswer, SingleLaw}
use Rattle.round_laws.proofs.Agree.{under_web}
use Rattle.match_laws.proofs.Sums.{in_numbers}
use Rattle.match_laws.proofs.Images.{web_good, nodes_has, nodes_there, size}
use Rattle.round_laws.proofs.Unique.{node_is, either_way, same_stable, one_round, solved_refuted, chosen_refuted, solved_chosen, chosen_one, one_search}

-- pairings
first_same : {X : Type 0} (p q : X → Bool) (xs : List X) (d : X) → ((x : X) → IsListed x xs → p x ≡ q x) → first_of p xs d ≡ first_of q xs d
first_same p q [] d h = refl
first_same {X} p q (x ∷ xs) d h = ap₂ (λ (b : Bool) (y : X). cond b x y) (h x (inl refl)) (first_same p q xs d (λ y i. h y (inr i)))

map_same : (f g : ℕ → ℕ) (xs : List ℕ) → ((x : ℕ) → IsListed x xs → f x ≡ g x) → map f xs ≡ map g xs
map_same f g [] h = refl
map_same f g (x ∷ xs) h = ap₂ (λ (y : ℕ) (ys : List ℕ). y ∷ ys) (h x (inl refl)) (map_same f g xs (λ y i. h y (inr i)))

numbers_same : (p : Pair) (f g : Node → Node) (kind : Kind) → ((a : Node) → IsListed a (nodes p Layout) → f a ≡ g a) → numbers_of f kind (size p Layout kind) ≡ numbers_of g kind (size p Layout kind)
numbers_same p f g kind h = map_same _ _ (numbers_from 0 (size p Layout kind)) (λ k i.
    let b = in_numbers k 0 (size p Layout kind) i in
    let high = b.1 in
    ap (λ (n : Node). n.number) (h (node Layout kind k) (nodes_has p Layout kind k (omega arith))))

pairing_same : (p : Pair) (f g : Node → Node) → ((a : Node) → IsListed a (nodes p Layout) → f a ≡ g a) → pairing_of p f ≡ pairing_of p g
pairing_same p f g h =
    ap (λ (x : List ℕ). let r : Pairing = record { nets = x; devices = numbers_of f Device (length p.left.devices); calls = numbers_of f Call (length p.left.calls) } in r) (numbers_same p f g Net h)
    ∙ (ap (λ (x : List ℕ). let r : Pairing = record { nets = numbers_of g Net (length p.left.nets); devices = x; calls = numbers_of f Call (length p.left.calls) } in r) (numbers_same p f g Device h)
    ∙ ap (λ (x : List ℕ). let r : Pairing = record { nets = numbers_of g Net (length p.left.nets); devices = numbers_of g Device (length p.left.devices); calls = x } in r) (numbers_same p f g Call h))

one_pairing : (p : Pair) (guesses : List (Guess Node)) (f g : Pairing) → IsFitting p Layout → IsFitting p Schematic → IsPairing p guesses f → IsPairing p guesses g → f ≡ g
one_pairing p guesses f g l s h k =
    let w : Web Node = under (web_of p) guesses in
    let web : IsWeb (under (web_of p) guesses) = under_web (web_of p) guesses (web_good p l s) in
    h.1 ∙ (pairing_same p (mate (under (web_of p) guesses) h.0.round) (mate (under (web_of p) guesses) k.0.round)
    (λ a i. first_same _ _ (nodes p Schematic) a (λ b j. same_stable (under (web_of p) guesses) h.0.round k.0.round web h.0.stable k.0.stable a b (inl i) (inr j)))
    ∙ sym k.1)

-- evidence
kind_by : (a b : Kind) → evidence_rank a ≡ evidence_rank b → a ≡ b
kind_by Net Net h = refl
kind_by Net Device h = absurd (omega arith)
kind_by Net Call h = absurd (omega arith)
kind_by Device Net h = absurd (omega arith)
kind_by Device Device h = refl
kind_by Device Call h = absurd (omega arith)
kind_by Call Net h = absurd (omega arith)
kind_by Call Device h = absurd (omega arith)
kind_by Call Call h = refl

side_by : (a b : Side) → side_rank a ≡ side_rank b → a ≡ b
side_by Layout Layout h = refl
side_by Layout Schematic h = absurd (omega arith)
side_by Schematic Layout h = absurd (omega arith)
side_by Schematic Schematic h = refl

least_one : (a b : Node) → IsNoLaterNode a b → IsNoLaterNode b a → a ≡ b
least_one a b (inl x) (inl y) = absurd (omega arith)
least_one a b (inl x) (inr y) = let e = y.0 in absurd (omega arith)
least_one a b (inr x) (inl y) = let e = x.0 in absurd (omega arith)
least_one a b (inr x) (inr y) = elim x.1 [
  | inl p ↦ elim y.1 [ inl q ↦ absurd (omega arith) | inr q ↦ let e = q.0 in absurd (omega arith) ]
  | inr p ↦ elim y.1 [
    | inl q ↦ let e = p.0 in absurd (omega arith)
    | inr q ↦ let e = p.1 in let f = q.1 in node_is a b (side_by a.side b.side p.0) (kind_by a.kind b.kind x.0) (omega arith)
  ]
]

refuted_of : (w : Web Node) (r : ℕ) (a : Node) (m n : ℕ) → IsEvidence w r a m n → IsRefuted w r
refuted_of w r a m n h = record { node = a; uneven = h.uneven; before = h.before }

one_evidence : (w : Web Node) (r s : ℕ) (a b : Node) (m n i j : ℕ) → IsEvidence w r a m n → IsEvidence w s b i j → DiffersInRound r a m n ≡ DiffersInRound s b i j
one_evidence w r s a b m n i j h k =
    let round : r ≡ s = one_round w r s (refuted_of w r a m n h) (refuted_of w s b i j k) in
    let y : IsNoLaterNode b a = k.least a (subst (λ (x : ℕ). IsUneven w x a) round h.uneven) in
    let x : IsNoLaterNode a b = h.least b (subst (λ (x : ℕ). IsUneven w x b) (sym round) k.uneven) in
    let same : a ≡ b = least_one a b x y in
    let left : m ≡ i = h.left_is ∙ (ap₂ (on_left w) round same ∙ sym k.left_is) in
    let right : n ≡ j = h.right_is ∙ (ap₂ (on_right w) round same ∙ sym k.right_is) in
    cc

-- calls that are not matched
one_unmatched : (p : Pair) (q r : ℕ) → IsFirstUnmatched p q → IsFirstUnmatched p r → q ≡ r
one_unmatched p q r h k = elim (ℕ_discrete h.number k.number) [
  | yes e ↦
      let call : h.call ≡ k.call = same_Some _ _ (sym h.is ∙ (ap (slice_get p.left.calls) e ∙ k.is)) in
      sym h.pair_is ∙ (ap (λ (c : CallRow). c.circuit) call ∙ k.pair_is)
  | no not ↦ elim (either_way h.number k.number) [
    | inl le ↦ let m = k.before h.number h.call (omega (arith, not)) h.is in absurd (none-some m.0 (sym h.none ∙ (ap p.children (sym h.pair_is) ∙ m.1)))
    | inr le ↦ let m = h.before k.number k.call (omega (arith, not)) k.is in absurd (none-some m.0 (sym k.none ∙ (ap p.children (sym k.pair_is) ∙ m.1)))
  ]
]

not_matched : (p : Pair) (q : ℕ) → IsFirstUnmatched p q → AreMatched p → ⊥
not_matched p q h m = let f = m h.number h.call h.is in none-some f.0 (sym h.none ∙ (ap p.children (sym h.pair_is) ∙ f.1))

found_ended : (t : Search) → HasFound t → HasEnded t → ⊥
found_ended Ended f e = f
found_ended Stopped f e = f
found_ended (Found b) f e = e
found_ended (Refuted b r rest) f e = found_ended rest f e
found_ended (Below b c below rest) f e = found_ended rest f e
found_ended (Open b c below) f e = e

one_side : (p : Pair) (x y : Node) → IsListed x (nodes p Layout) → IsListed y (nodes p Layout) → x.side ≡ y.side
one_side p x y i j = (nodes_there p Layout x i).stands ∙ sym (nodes_there p Layout y j).stands

same_search : (p : Pair) (same : Node → Node → Bool) (limit : ℕ) (t u : Search) → IsFitting p Layout → IsFitting p Schematic
    → IsWholeSearch (setting_of p same limit) t → IsWholeSearch (setting_of p same limit) u → t ≡ u
same_search p same limit t u l s h k = one_search (setting_of p same limit) t u (web_good p l s) (one_side p) h k

same_node_chosen : (p : Pair) (same : Node → Node → Bool) (limit : ℕ) (t u : Search) → IsFitting p Layout → IsFitting p Schematic
    → (h : IsWholeSearch (setting_of p same limit) t) (k : IsWholeSearch (setting_of p same limit) u) → h.node ≡ k.node
same_node_chosen p same limit t u l s h k = chosen_one (web_of p) h.round k.round h.node k.node (web_good p l s) (one_side p) h.chosen k.chosen

one_rows : (p : Pair) (same : Node → Node → Bool) (limit : ℕ) (E F : Search → Type 0) (gs hs : List Row) → IsFitting p Layout → IsFitting p Schematic
    → IsTreeAnswer p same limit E gs → IsTreeAnswer p same limit F hs → gs ≡ hs
one_rows p same limit E F gs hs l s h k =
    h.rows_are ∙ (ap₂ (rows 1) (same_node_chosen p same limit h.search k.search l s h.whole k.whole) (same_search p same limit h.search k.search l s h.whole k.whole) ∙ sym k.rows_are)

-- each two kinds of answers exclude each other
round_skipped : (p : Pair) (r : ℕ) (a : Node) (m n q : ℕ) → IsEvidence (web_of p) r a m n → (r ≡ 0) ⊎ AreMatched p → IsEven (web_of p) 0 → IsFirstUnmatched p q → ⊥
round_skipped p r a m n q h (inl e) even u = let z : IsUneven (web_of p) 0 a = subst (λ (x : ℕ). IsUneven (web_of p) x a) e h.uneven in z.counts (even a z.node)
round_skipped p r a m n q h (inr matched) even u = not_matched p q u matched

round_match : (p : Pair) (same : Node → Node → Bool) (limit r : ℕ) (a : Node) (m n : ℕ) (f : Pairing) → IsFitting p Layout → IsFitting p Schematic
    → IsEvidence (web_of p) r a m n → IsPairing p [] f ⊎ IsFound p same limit f → ⊥
round_match p same limit r a m n f l s h (inl x) = solved_refuted (web_of p) r (web_good p l s) x.0 (refuted_of (web_of p) r a m n h)
round_match p same limit r a m n f l s h (inr x) = chosen_refuted (web_of p) x.whole.round r x.whole.node (web_good p l s) x.whole.chosen (refuted_of (web_of p) r a m n h)

round_tree : (p : Pair) (same : Node → Node → Bool) (limit r : ℕ) (a : Node) (m n : ℕ) (E : Search → Type 0) (gs : List Row) → IsFitting p Layout → IsFitting p Schematic
    → IsEvidence (web_of p) r a m n → IsTreeAnswer p same limit E gs → ⊥
round_tree p same limit r a m n E gs l s h x = chosen_refuted (web_of p) x.whole.round r x.whole.node (web_good p l s) x.whole.chosen (refuted_of (web_of p) r a m n h)

match_tree : (p : Pair) (same : Node → Node → Bool) (limit : ℕ) (f : Pairing) (E : Search → Type 0) (gs : List Row) → IsFitting p Layout → IsFitting p Schematic
    → IsPairing p [] f ⊎ IsFound p same limit f → IsTreeAnswer p same limit E gs → ((t : Search) → E t → HasFound t → ⊥) → ⊥
match_tree p same limit f E gs l s (inl x) y apart = solved_chosen (web_of p) y.whole.round y.whole.node (web_good p l s) x.0 y.whole.chosen
match_tree p same limit f E gs l s (inr x) y apart = apart y.search y.end (subst HasFound (same_search p same limit x.search y.search l s x.whole y.whole) x.found)

one_match : (p : Pair) (same : Node → Node → Bool) (limit : ℕ) (f g : Pairing) → IsFitting p Layout → IsFitting p Schematic
    → IsPairing p [] f ⊎ IsFound p same limit f → IsPairing p [] g ⊎ IsFound p same limit g → f ≡ g
one_match p same limit f g l s (inl x) (inl y) = one_pairing p [] f g l s x y
one_match p same limit f g l s (inl x) (inr y) = absurd (solved_chosen (web_of p) y.whole.round y.whole.node (web_good p l s) x.0 y.whole.chosen)
one_match p same limit f g l s (inr x) (inl y) = absurd (solved_chosen (web_of p) x.whole.round x.whole.node (web_good p l s) y.0 x.whole.chosen)
one_match p same limit f g l s (inr x) (inr y) =
    let guesses : solved_guesses [] x.whole.node x.search ≡ solved_guesses [] y.whole.node y.search
    = ap₂ (solved_guesses []) (same_node_chosen p same limit x.search y.search l s x.whole y.whole) (same_search p same limit x.search y.search l s x.whole y.whole) in
    one_pairing p (solved_guesses [] x.whole.node x.search) f g l s x.pairing (subst (λ (gs : List (Guess Node)). IsPairing p gs g) (sym guesses) y.pairing)

stopped_apart : (t : Search) → HasStopped t → HasFound t → ⊥
stopped_apart t h f = h.1 f

ended_apart : (t : Search) → HasEnded t → HasFound t → ⊥
ended_apart t h f = found_ended t f h

ended_stopped : (p : Pair) (same : Node → Node → Bool) (limit : ℕ) (gs hs : List Row) → IsFitting p Layout → IsFitting p Schematic
    → IsTreeAnswer p same limit HasEnded gs → IsTreeAnswer p same limit HasStopped hs → ⊥
ended_stopped p same limit gs hs l s h k = k.end.0 (subst HasEnded (same_search p same limit h.search k.search l s h.whole k.whole) h.end)

pub one_answer : (p : Pair) (same : Node → Node → Bool) (limit : ℕ) (a b : Answer) → IsFitting p Layout → IsFitting p Schematic → IsAnswer p same limit a → IsAnswer p same limit b → a ≡ b
one_answer p same limit (Match f1) (Match f2) l s h g = ap Match (one_match p same limit f1 f2 l s h.1 g.1)
one_answer p same limit (Match f1) (DiffersInRound r2 a2 m2 n2) l s h g = absurd (round_match p same limit r2 a2 m2 n2 f1 l s g.0 h.1)
one_answer p same limit (Match f1) (DiffersByTree gs2) l s h g = absurd (match_tree p same limit f1 HasEnded gs2 l s h.1 g ended_apart)
one_answer p same limit (Match f1) (Undecided gs2) l s h g = absurd (match_tree p same limit f1 HasStopped gs2 l s h.1 g stopped_apart)
one_answer p same limit (Match f1) (Skipped q2) l s h g = absurd (not_matched p q2 g.1 h.0)
one_answer p same limit (DiffersInRound r1 a1 m1 n1) (Match f2) l s h g = absurd (round_match p same limit r1 a1 m1 n1 f2 l s h.0 g.1)
one_answer p same limit (DiffersInRound r1 a1 m1 n1) (DiffersInRound r2 a2 m2 n2) l s h g = one_evidence (web_of p) r1 r2 a1 a2 m1 n1 m2 n2 h.0 g.0
one_answer p same limit (DiffersInRound r1 a1 m1 n1) (DiffersByTree gs2) l s h g = absurd (round_tree p same limit r1 a1 m1 n1 HasEnded gs2 l s h.0 g)
one_answer p same limit (DiffersInRound r1 a1 m1 n1) (Undecided gs2) l s h g = absurd (round_tree p same limit r1 a1 m1 n1 HasStopped gs2 l s h.0 g)
one_answer p same limit (DiffersInRound r1 a1 m1 n1) (Skipped q2) l s h g = absurd (round_skipped p r1 a1 m1 n1 q2 h.0 h.1 g.0 g.1)
one_answer p same limit (DiffersByTree gs1) (Match f2) l s h g = absurd (match_tree p same limit f2 HasEnded gs1 l s g.1 h ended_apart)
one_answer p same limit (DiffersByTree gs1) (DiffersInRound r2 a2 m2 n2) l s h g = absurd (round_tree p same limit r2 a2 m2 n2 HasEnded gs1 l s g.0 h)
one_answer p same limit (DiffersByTree gs1) (DiffersByTree gs2) l s h g = ap DiffersByTree (one_rows p same limit HasEnded HasEnded gs1 gs2 l s h g)
one_answer p same limit (DiffersByTree gs1) (Undecided gs2) l s h g = absurd (ended_stopped p same limit gs1 gs2 l s h g)
one_answer p same limit (DiffersByTree gs1) (Skipped q2) l s h g = absurd (not_matched p q2 g.1 h.matched)
one_answer p same limit (Undecided gs1) (Match f2) l s h g = absurd (match_tree p same limit f2 HasStopped gs1 l s g.1 h stopped_apart)
one_answer p same limit (Undecided gs1) (DiffersInRound r2 a2 m2 n2) l s h g = absurd (round_tree p same limit r2 a2 m2 n2 HasStopped gs1 l s g.0 h)
one_answer p same limit (Undecided gs1) (DiffersByTree gs2) l s h g = absurd (ended_stopped p same limit gs2 gs1 l s g h)
one_answer p same limit (Undecided gs1) (Undecided gs2) l s h g = ap Undecided (one_rows p same limit HasStopped HasStopped gs1 gs2 l s h g)
one_answer p same limit (Undecided gs1) (Skipped q2) l s h g = absurd (not_matched p q2 g.1 h.matched)
one_answer p same limit (Skipped q1) (Match f2) l s h g = absurd (not_matched p q1 h.1 g.0)
one_answer p same limit (Skipped q1) (DiffersInRound r2 a2 m2 n2) l s h g = absurd (round_skipped p r2 a2 m2 n2 q1 g.0 g.1 h.0 h.1)
one_answer p same limit (Skipped q1) (DiffersByTree gs2) l s h g = absurd (not_matched p q1 h.1 g.matched)
one_answer p same limit (Skipped q1) (Undecided gs2) l s h g = absurd (not_matched p q1 h.1 g.matched)
one_answer p same limit (Skipped q1) (Skipped q2) l s h g = ap Skipped (one_unmatched p q1 q2 h.1 g.1)

-- so single stable classes are a match
pub single_matches : SingleLaw
single_matches p same limit answer l s h all solved =
    let f : Pairing = pairing_of p (mate (under (web_of p) []) solved.round) in
    let plain : IsPairing p [] f = (record { round = solved.round; stable = solved.stable; even = solved.even; left = solved.left; right = solved.right }, refl) in
    (f, one_answer p same limit answer (Match f) l s h (all, inl plain))
