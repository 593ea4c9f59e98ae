-- What the answers of all pairs say.
use Rattle.std.proofs.Common.{◌≡◌, ◌⊎◌, inl, inr, ℕ, zero, suc, ◌<◌, ◌≤◌, ◌==◌, true, false, cond, List, [], map, length, get_or, slice_get, Option, Some, None, IsNone, IsSomeAnd, refl, sym, ◌∙◌, ap, subst, arith}
use Rattle.std.proofs.Math.Decide.{ℕ_discrete}
use Rattle.std.proofs.lemmas.List.{get_or_default, length-map}
use Rattle.std.proofs.lemmas.Map.Keys.{any_passes_from_place}
use Rattle.std.proofs.lemmas.Option.{none-some, slice_get-map, slice_get_within, slice_get-get_or, get_or_from_slice_get}
use Rattle.std.proofs.lemmas.Bool.Decides.{Decides-eqb}
use Rattle.std.specs.List.{All, Any}
use Rattle.std.specs.Option.{option_map}
use Rattle.plain_netlist.specs.Netlist.{CallRow, Circuit, Netlist, IsCircuit}
use Rattle.plain_netlist.specs.Sound.{IsGood}
use Rattle.round_laws.specs.Nodes.{Layout, Schematic}
use Rattle.match_laws.specs.Circuits.{IsFitting}
use Rattle.match_laws.specs.Answer.{Answer, Match, DiffersInRound, DiffersByTree, Undecided, Skipped, IsAnswer, IsDifference, equal_names}
use Rattle.align_laws.specs.Lists.{given_of}
use Rattle.align_laws.specs.Partners.{AreSides}
use Rattle.composed_laws.specs.Answered.{Asked, IsAnswerOf, children_of, is_called, pair_in, pairing_or, right_pins, AreMatches}
use Rattle.composed_laws.proofs.Matching.{matched_netlists, matched_tops}
use Rattle.composed_laws.proofs.Fitting.{any_listed}
use Rattle.composed_laws.proofs.OneByOne.{read_answers, together_answers}
use Rattle.match_laws.proofs.Answer as shown
use Rattle.match_types.specs.Answered.{asked_of}
use Rattle.match_types.specs.Plain.{plain_answer}
use Rattle.match_types.specs.declared.answer.Answer as rows
use Rattle.net_model.specs.Rows.{plain_netlist}
use Rattle.pair_jobs.specs.Answers.{AreAllAnswers, IsMatch, MatchedPairsLaw, MatchedTopsLaw, ResultsLaw, CarriedPairLaw, KeptPairLaw, UnevenPairLaw, answer_at, pairing_in, pairings_of}
use Rattle.pair_jobs.specs.Verdict.{IsUndecided, OneVerdictLaw, OneRunVerdictLaw, UndecidedPairLaw}
use Rattle.pair_jobs.specs.declared.verdict.Verdict.TheVariants as verdict

-- the value that is there
there : {A : Type 0} (P : A → Type 0) (o : Option A) → IsSomeAnd o P → (v : A) × (o ≡ Some v) × P v
there P None h = absurd h
there P (Some v) h = (v, refl, h)

plain_there : (values : List rows.Answer) (k : ℕ) (v : rows.Answer) → slice_get values k ≡ Some v → answer_at (map plain_answer values) k ≡ plain_answer v
plain_there values k v e = get_or_from_slice_get (map plain_answer values) k (plain_answer v) (Skipped k) (slice_get-map plain_answer values k ∙ ap (option_map plain_answer) e)

pub results : ResultsLaw
results key graph values sides good jobs defined =
    let left = plain_netlist key.left.value in
    let right = plain_netlist key.right.value in
    let asked = asked_of left key.limit.value key.same_pins.value in
    let answers = map plain_answer values in
    record {
      count = length-map values plain_answer ∙ (defined.count ∙ jobs.jobs);
      each = (together_answers left right asked (answer_at answers) sides good).1 (λ k c is.
          let within = slice_get_within left.circuits k c is in
          let count = jobs.jobs in
          let v = there _ (slice_get values k) (defined.each k (omega (arith, within, count))) in
          subst (IsAnswerOf left right asked k) (sym (plain_there values k v.0 v.1)) v.2);
    }

match_is : (a : Answer) → IsMatch a → a ≡ Match (pairing_in (pairing_or a))
match_is (Match f) h = refl
match_is (DiffersInRound r a m n) h = absurd h
match_is (DiffersByTree gs) h = absurd h
match_is (Undecided gs) h = absurd h
match_is (Skipped q) h = absurd h

pub are_matches : (left right : Netlist) (asked : Asked) (answers : List Answer) → AreAllAnswers left right asked answers → All IsMatch answers → AreMatches left (answer_at answers) (pairings_of answers)
are_matches left right asked answers h all k c is =
    let within = slice_get_within left.circuits k c is in
    let count = h.count in
    match_is (answer_at answers k) (all k (Skipped k) (omega (arith, within, count)))

pub matched_pairs : MatchedPairsLaw
matched_pairs layout schematic top right_top same left right v w p asked answers h all c d pair =
    matched_netlists layout schematic top right_top same left right v w p asked (answer_at answers) (pairings_of answers) h.each (are_matches left right asked answers h all) c d pair

pub matched_top : MatchedTopsLaw
matched_top layout schematic top right_top same left right v w p asked answers h all =
    matched_tops layout schematic top right_top same left right v w p asked (answer_at answers) (pairings_of answers) h.each (are_matches left right asked answers h all)

pub match_not : (a : Answer) → IsMatch a → IsDifference a → ⊥
match_not (Match f) h g = g
match_not (DiffersInRound r a m n) h g = h
match_not (DiffersByTree gs) h g = h
match_not (Undecided gs) h g = h
match_not (Skipped q) h g = h

decided : (a : Answer) → IsMatch a → IsUndecided a → ⊥
decided (Match f) h g = g
decided (DiffersInRound r a m n) h g = h
decided (DiffersByTree gs) h g = h
decided (Undecided gs) h g = h
decided (Skipped q) h g = h

all_not : (answers : List Answer) (P : Answer → Type 0) → ((a : Answer) → IsMatch a → P a → ⊥) → All IsMatch answers → Any P answers → ⊥
all_not answers P never all (k, a, lt, is, p) = never a (subst IsMatch is (all k a lt)) p

pub one_verdict : OneVerdictLaw
one_verdict answers verdict.Match verdict.Match h g = refl
one_verdict answers verdict.Match verdict.Mismatch h g = absurd (all_not answers IsDifference match_not h g)
one_verdict answers verdict.Match verdict.Undecided h g = absurd (g.1 h)
one_verdict answers verdict.Mismatch verdict.Match h g = absurd (all_not answers IsDifference match_not g h)
one_verdict answers verdict.Mismatch verdict.Mismatch h g = refl
one_verdict answers verdict.Mismatch verdict.Undecided h g = absurd (g.0 h)
one_verdict answers verdict.Undecided verdict.Match h g = absurd (h.1 g)
one_verdict answers verdict.Undecided verdict.Mismatch h g = absurd (h.0 g)
one_verdict answers verdict.Undecided verdict.Undecided h g = refl

-- a matched pair has right pins
has_pins : (c : Circuit) (a : Answer) → IsMatch a → right_pins c (pairing_or a) ≡ None → ⊥
has_pins c (Match f) h e = none-some _ (sym e)
has_pins c (DiffersInRound r a m n) h e = h
has_pins c (DiffersByTree gs) h e = h
has_pins c (Undecided gs) h e = h
has_pins c (Skipped q) h e = h

module _ (left right : Netlist) (asked : Asked) (answers : List Answer) (sides : AreSides left right) (good : IsGood left (λ k. k)) (h : AreAllAnswers left right asked answers) (same : Any IsDifference answers → ⊥) where
  abbrev at : ℕ → Answer
  at = answer_at answers

  -- the pairs before a skipped one don't all match
  skips : (k q : ℕ) → k < length answers → at k ≡ Skipped q → ((j : ℕ) → j < k → IsMatch (at j)) → ⊥
  skips k q lt e below =
      let within : k < length left.circuits = (let count = h.count in omega (arith, count, lt)) in
      let c = get_or left.circuits k (record { name = []; nets = []; pins = []; devices = []; calls = [] }) in
      let is : IsCircuit left k c = slice_get-get_or left.circuits k _ within in
      let d = sides.there k c is in
      let p = pair_in (asked.told k) left at c d.0 in
      let first = (subst (λ a. IsAnswer p (equal_names p) asked.limit a) e (h.each k c d.0 is d.1)).1 in
      let named : is_called c q ≡ true = any_passes_from_place (λ (r : CallRow). r.circuit == q) c.calls first.number first.call first.is ((Decides-eqb first.call.circuit q).1 first.pair_is) in
      let low = good.lower k first.number first.call (c, is, first.is) in
      let pair_is = first.pair_is in
      let none : children_of left at q ≡ None = sym (ap (λ t. cond t (children_of left at q) None) named) ∙ first.none in
      has_pins (given_of left q) (at q) (below q (omega (arith, low, pair_is))) none

  next : (n : ℕ) → n < length answers → ((j : ℕ) → j < n → IsMatch (at j)) → (a : Answer) → at n ≡ a → IsMatch a ⊎ Any IsUndecided answers
  next n lt below (Match f) e = inl tt
  next n lt below (DiffersInRound r a m l) e = absurd (same (n, DiffersInRound r a m l, lt, get_or_default answers n (DiffersInRound r a m l) (Skipped n) lt ∙ e, tt))
  next n lt below (DiffersByTree gs) e = absurd (same (n, DiffersByTree gs, lt, get_or_default answers n (DiffersByTree gs) (Skipped n) lt ∙ e, tt))
  next n lt below (Undecided gs) e = inr (n, Undecided gs, lt, get_or_default answers n (Undecided gs) (Skipped n) lt ∙ e, tt)
  next n lt below (Skipped q) e = absurd (skips n q lt e below)

  -- the first pairs match, or one is undecided
  first_pairs : (n : ℕ) → n ≤ length answers → ((j : ℕ) → j < n → IsMatch (at j)) ⊎ Any IsUndecided answers
  first_pairs zero le = inl (λ j lt. absurd (omega arith))
  first_pairs (suc n) le = elim (first_pairs n (omega arith)) [
    | inr some ↦ inr some
    | inl below ↦ elim (next n (omega arith) below (at n) refl) [
      | inr some ↦ inr some
      | inl here ↦ inl (λ j lt. elim (ℕ_discrete j n) [
        | yes e ↦ subst (λ i. IsMatch (at i)) (sym e) here
        | no m ↦ below j (omega (arith, lt, m))
      ])
    ]
  ]

  all_or : All IsMatch answers ⊎ Any IsUndecided answers
  all_or = elim (first_pairs (length answers) (omega arith)) [
    | inr some ↦ inr some
    | inl all ↦ inl (λ k d lt. subst IsMatch (get_or_default answers k (Skipped k) d lt) (all k lt))
  ]

pub undecided_pair : UndecidedPairLaw
undecided_pair left right asked answers sides good h = (
  (λ u. (u.0, elim (all_or left right asked answers sides good h u.0) [ inl all ↦ absurd (u.1 all) | inr some ↦ some ])),
  (λ u. (u.0, λ all. all_not answers IsUndecided decided all u.1)),
)

not_none : (answers : List Answer) → IsNone (Some answers) → ⊥
not_none answers h = let e : true ≡ false = h in cc

pub one_run : OneRunVerdictLaw
one_run bad None verdict.Match b h g = absurd h.1
one_run bad None verdict.Undecided b h g = absurd h.1
one_run bad None verdict.Mismatch verdict.Match h g = absurd g.1
one_run bad None verdict.Mismatch verdict.Undecided h g = absurd g.1
one_run bad None verdict.Mismatch verdict.Mismatch h g = refl
one_run bad (Some answers) verdict.Match verdict.Match h g = refl
one_run bad (Some answers) verdict.Match verdict.Undecided h g = one_verdict answers verdict.Match verdict.Undecided h.1 g.1
one_run bad (Some answers) verdict.Match verdict.Mismatch h (inl g) = let e = h.0 in absurd (omega (arith, e, g))
one_run bad (Some answers) verdict.Match verdict.Mismatch h (inr (inl g)) = absurd (not_none answers g)
one_run bad (Some answers) verdict.Match verdict.Mismatch h (inr (inr g)) = one_verdict answers verdict.Match verdict.Mismatch h.1 g
one_run bad (Some answers) verdict.Undecided verdict.Match h g = one_verdict answers verdict.Undecided verdict.Match h.1 g.1
one_run bad (Some answers) verdict.Undecided verdict.Undecided h g = refl
one_run bad (Some answers) verdict.Undecided verdict.Mismatch h (inl g) = let e = h.0 in absurd (omega (arith, e, g))
one_run bad (Some answers) verdict.Undecided verdict.Mismatch h (inr (inl g)) = absurd (not_none answers g)
one_run bad (Some answers) verdict.Undecided verdict.Mismatch h (inr (inr g)) = one_verdict answers verdict.Undecided verdict.Mismatch h.1 g
one_run bad (Some answers) verdict.Mismatch verdict.Mismatch h g = refl
one_run bad (Some answers) verdict.Mismatch verdict.Match (inl h) g = let e = g.0 in absurd (omega (arith, e, h))
one_run bad (Some answers) verdict.Mismatch verdict.Match (inr (inl h)) g = absurd (not_none answers h)
one_run bad (Some answers) verdict.Mismatch verdict.Match (inr (inr h)) g = one_verdict answers verdict.Mismatch verdict.Match h g.1
one_run bad (Some answers) verdict.Mismatch verdict.Undecided (inl h) g = let e = g.0 in absurd (omega (arith, e, h))
one_run bad (Some answers) verdict.Mismatch verdict.Undecided (inr (inl h)) g = absurd (not_none answers h)
one_run bad (Some answers) verdict.Mismatch verdict.Undecided (inr (inr h)) g = one_verdict answers verdict.Mismatch verdict.Undecided h g.1

-- a pair's circuits fit the pins that the called pairs hand up
fitting : (left right : Netlist) (asked : Asked) (answers : List Answer) → AreSides left right → IsGood left (λ k. k) → AreAllAnswers left right asked answers → (k : ℕ) (c d : Circuit)
    → IsCircuit left k c → IsCircuit right k d → IsFitting (pair_in (asked.told k) left (answer_at answers) c d) Layout × IsFitting (pair_in (asked.told k) left (answer_at answers) c d) Schematic
fitting left right asked answers sides good h k c d is also =
    let at = answer_at answers in
    let right_all = (together_answers left right asked at sides good).0 h.each in
    let called : (q : ℕ) → is_called c q ≡ true → IsAnswerOf left right asked q (at q) = λ q e.
    let r = any_listed q c.calls e in
    let x = good.called k r.0 r.1 (c, is, r.2) in
    right_all q x.0 (subst (λ n. IsCircuit left n x.0) r.3 x.1) in
    let fits = read_answers left right asked k c d at sides good is also called in
    (fits.0, fits.1)

pub carried_pair : CarriedPairLaw
carried_pair left right asked answers sides good h k c d f is also matches =
    let p = pair_in (asked.told k) left (answer_at answers) c d in
    let fits = fitting left right asked answers sides good h k c d is also in
    shown.matched p (equal_names p) asked.limit f fits.0 fits.1 (subst (λ (a : Answer). IsAnswer p (equal_names p) asked.limit a) matches (h.each k c d is also))

pub kept_pair : KeptPairLaw
kept_pair left right asked answers sides good h k c d f is also corresponds =
    let p = pair_in (asked.told k) left (answer_at answers) c d in
    let fits = fitting left right asked answers sides good h k c d is also in
    λ differs. shown.differs p (equal_names p) asked.limit (answer_at answers k) f fits.0 fits.1 (h.each k c d is also) differs corresponds

pub uneven_pair : UnevenPairLaw
uneven_pair left right asked answers h k c d a is also uneven =
    let at = answer_at answers in
    let r = shown.uneven_differs (pair_in (asked.told k) left at c d) (equal_names (pair_in (asked.told k) left at c d)) asked.limit (at k) a (h.each k c d is also) uneven in
    subst IsDifference (sym r.3) tt
