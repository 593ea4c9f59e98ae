-- The verdict of the first answers.
use Rattle.std.proofs.Common.{◌≡◌, ℕ, Bool, true, false, refl, ◌+◌, ◌<◌, List, map, length, slice_get, Some, sym, ◌∙◌, ap, subst, arith}
use Rattle.std.proofs.Math.Decide.{ℕ_discrete}
use Rattle.std.proofs.lemmas.List.{get_or_default, length-map}
use Rattle.std.proofs.lemmas.List.Folds.{Any-from_list_any, list_any-from_Any, list_any_none}
use Rattle.std.proofs.lemmas.Option.{slice_get-map, slice_get_within, get_or_from_slice_get}
use Rattle.std.specs.List.{Any, list_any}
use Rattle.std.specs.Option.{option_map}
use Rattle.match_laws.specs.Answer.{Answer, Match, DiffersInRound, DiffersByTree, Undecided, IsDifference, Skipped}
use Rattle.match_types.specs.Plain.{plain_answer, plain_evidence}
use Rattle.match_types.specs.declared.answer.Answer as rows
use Rattle.match_types.specs.declared.answer.Evidence.{Evidence}
use Rattle.match_types.specs.declared.answer.Evidence.TheVariants as evidence
use Rattle.pair_jobs.proofs.Together.{match_not}
use Rattle.pair_jobs.specs.Answers.{IsMatch, answer_at, is_difference}
use Rattle.pair_jobs.specs.Verdict.{IsVerdict}
use Rattle.pair_jobs.specs.declared.verdict.Verdict.{Verdict}
use Rattle.pair_jobs.specs.declared.verdict.Verdict.TheVariants as verdict

-- what was found of the first n answers
abbrev pub IsSoFar : List Answer → ℕ → Verdict → Type 0
IsSoFar answers n verdict.Match = (k : ℕ) → k < n → IsMatch (answer_at answers k)
IsSoFar answers n verdict.Mismatch = ⊥
IsSoFar answers n verdict.Undecided = ((k : ℕ) → k < n → IsDifference (answer_at answers k) → ⊥) × ((k : ℕ) × (k < n) × (IsMatch (answer_at answers k) → ⊥))

pub none_so_far : (answers : List Answer) → IsSoFar answers 0 verdict.Match
none_so_far answers k lt = absurd (omega arith)

-- the answer of a number
pub read_at : (values : List rows.Answer) (k : ℕ) (v : rows.Answer) → slice_get values k ≡ Some v → answer_at (map plain_answer values) k ≡ plain_answer v
read_at values k v e = get_or_from_slice_get (map plain_answer values) k (plain_answer v) (Skipped k) (slice_get-map plain_answer values k ∙ ap (option_map plain_answer) e)

differs : (e : Evidence) → IsDifference (plain_evidence e)
differs (evidence.Round round node left right) = tt
differs (evidence.Tree guesses) = tt

pub found_difference : (values : List rows.Answer) (k : ℕ) (v : rows.Answer) (e : Evidence) → slice_get values k ≡ Some v → plain_answer v ≡ plain_evidence e → Any IsDifference (map plain_answer values)
found_difference values k v e at is =
    let lt : k < length (map plain_answer values) = (let within = slice_get_within values k v at in let count = length-map values plain_answer in omega (arith, within, count)) in
    (k, plain_answer v, lt, get_or_default (map plain_answer values) k (plain_answer v) (Skipped k) lt ∙ read_at values k v at, subst IsDifference (sym is) (differs e))

-- one answer more: it is a match
pub match_more : (answers : List Answer) (n : ℕ) (v : Verdict) → IsMatch (answer_at answers n) → IsSoFar answers n v → IsSoFar answers (n + 1) v
match_more answers n verdict.Match m h = λ k lt. elim (ℕ_discrete k n) [
  | yes e ↦ subst (λ i. IsMatch (answer_at answers i)) (sym e) m
  | no l ↦ h k (omega (arith, lt, l))
]
match_more answers n verdict.Mismatch m h = h
match_more answers n verdict.Undecided m h = (
  (λ k lt d. elim (ℕ_discrete k n) [
    | yes e ↦ match_not (answer_at answers n) m (subst (λ i. IsDifference (answer_at answers i)) e d)
    | no l ↦ h.0 k (omega (arith, lt, l)) d
  ]),
  (let below = h.1.1 in (h.1.0, omega (arith, below), h.1.2)),
)

-- or neither a match nor a difference
pub open_more : (answers : List Answer) (n : ℕ) (v : Verdict) → (IsMatch (answer_at answers n) → ⊥) → (IsDifference (answer_at answers n) → ⊥) → IsSoFar answers n v → IsSoFar answers (n + 1) verdict.Undecided
open_more answers n verdict.Match m d h = (
  (λ k lt f. elim (ℕ_discrete k n) [
    | yes e ↦ d (subst (λ i. IsDifference (answer_at answers i)) e f)
    | no l ↦ match_not (answer_at answers k) (h k (omega (arith, lt, l))) f
  ]),
  (n, omega arith, m),
)
open_more answers n verdict.Mismatch m d h = absurd h
open_more answers n verdict.Undecided m d h = (
  (λ k lt f. elim (ℕ_discrete k n) [
    | yes e ↦ d (subst (λ i. IsDifference (answer_at answers i)) e f)
    | no l ↦ h.0 k (omega (arith, lt, l)) f
  ]),
  (n, omega arith, m),
)

pub all_so_far : (answers : List Answer) (n : ℕ) (v : Verdict) → n ≡ length answers → IsSoFar answers n v → IsVerdict answers v
all_so_far answers n verdict.Match e h = λ k d lt. subst IsMatch (get_or_default answers k (Skipped k) d lt) (h k (omega (arith, e, lt)))
all_so_far answers n verdict.Mismatch e h = absurd h
all_so_far answers n verdict.Undecided e h = (
  (λ some. let lt = some.2 in h.0 some.0 (omega (arith, e, lt)) (subst IsDifference (sym (get_or_default answers some.0 (Skipped some.0) some.1 some.2 ∙ some.3)) some.4)),
  (λ all. let below = h.1.1 in h.1.2 (all h.1.0 (Skipped h.1.0) (omega (arith, e, below)))),
)

difference_is : (a : Answer) → is_difference a ≡ true → IsDifference a
difference_is (DiffersInRound r a m n) e = tt
difference_is (DiffersByTree gs) e = tt
difference_is (Match f) e = cc
difference_is (Undecided gs) e = cc
difference_is (Skipped q) e = cc

is_one : (a : Answer) → IsDifference a → is_difference a ≡ true
is_one (DiffersInRound r a m n) h = refl
is_one (DiffersByTree gs) h = refl
is_one (Match f) h = absurd h
is_one (Undecided gs) h = absurd h
is_one (Skipped q) h = absurd h

match_isnt : (a : Answer) → IsMatch a → is_difference a ≡ false
match_isnt (Match f) h = refl
match_isnt (DiffersInRound r a m n) h = absurd h
match_isnt (DiffersByTree gs) h = absurd h
match_isnt (Undecided gs) h = absurd h
match_isnt (Skipped q) h = absurd h

abbrev pub is_mismatch : Verdict → Bool
is_mismatch verdict.Match = false
is_mismatch verdict.Mismatch = true
is_mismatch verdict.Undecided = false

-- a mismatch is that a pair differs
pub differs_where : (answers : List Answer) (v : Verdict) → IsVerdict answers v → is_mismatch v ≡ list_any is_difference answers
differs_where answers verdict.Match h = sym (list_any_none is_difference answers (λ k x low. match_isnt _ (h k x low)))
differs_where answers verdict.Mismatch h = sym (list_any-from_Any is_difference answers (let (k, a, low, at, d) = h in (k, a, low, at, is_one a d)))
differs_where answers verdict.Undecided h = go (list_any is_difference answers) refl
  where
    go : (b : Bool) → list_any is_difference answers ≡ b → false ≡ list_any is_difference answers
    go false e = sym e
    go true e = absurd (h.0 (let (k, a, low, at, d) = Any-from_list_any is_difference answers e in (k, a, low, at, difference_is a d)))
