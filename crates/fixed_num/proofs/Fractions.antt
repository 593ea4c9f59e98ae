-- One digit more of a fraction of 10 ^ tens.
use Rattle.std.proofs.Common.{◌≡◌, inl, inr, ℕ, ◌+◌, ◌*◌, ◌^◌, ◌<◌, ◌≤◌, true, List, [], ◌∷◌, ◌++◌, length, refl, sym, ap, ◌∙◌, append_assoc, arith}
use Rattle.std.proofs.lemmas.Bool.{cases_lt}
use Rattle.std.proofs.lemmas.Bool.Decides.{nat_tests}
use Rattle.std.proofs.lemmas.List.{length_push}
use Rattle.std.proofs.lemmas.List.Folds.{list_all-append}
use Rattle.std.proofs.lemmas.Nat.{pow-add}
use Rattle.std.proofs.Math.Nat.{mul-le-mul_right}
use Rattle.std.specs.Char.{is_ascii_digit}
use Rattle.std.specs.Str.Parse.{digits_value}
use Rattle.fixed_num.specs.Microns.{AddsDigits}
use Rattle.fixed_num.proofs.Digits.{value-append, digit_worth}

digit_byte : (d : ℕ) → d < 10 → is_ascii_digit (48 + d) ≡ true
digit_byte d h = grind (arith, nat_tests)

abbrev final : ℕ → List ℕ → ℕ
final a [] = a
final a (x ∷ xs) = final x xs

final-push : (b : ℕ) (xs : List ℕ) (a : ℕ) → final b (xs ++ a ∷ []) ≡ a
final-push b [] a = refl
final-push b (x ∷ xs) a = final-push x xs a

same_final : (xs ys : List ℕ) (a b : ℕ) → xs ++ a ∷ [] ≡ ys ++ b ∷ [] → a ≡ b
same_final xs ys a b e = sym (final-push 0 xs a) ∙ ap (final 0) e ∙ final-push 0 ys b

-- so many digits leave nothing
room : (tens k value rest v : ℕ) → k ≤ tens → 0 < rest → rest < 10 ^ tens → value * 10 ^ tens + rest ≡ v * 10 ^ k → k < tens
room tens k value rest v few some below e =
    elim (cases_lt k tens) [
      | inl less ↦ less
      | inr more ↦
          let all : k ≡ tens = omega arith in
          let p : value * 10 ^ tens + rest ≡ v * 10 ^ tens = e ∙ ap (λ (j : ℕ). v * 10 ^ j) all in
          absurd (none_left value v (10 ^ tens) rest some below p)
    ]
  where
    none_left : (value v t rest : ℕ) → 0 < rest → rest < t → value * t + rest ≡ v * t → ⊥
    none_left value v t rest some below e =
        elim (cases_lt value v) [
          | inl less ↦ let up : value + 1 ≤ v = omega arith in absurd (omega (arith, mul-le-mul_right t up, e, below))
          | inr more ↦ let up : v ≤ value = omega arith in absurd (omega (arith, mul-le-mul_right t up, e, some))
        ]

small_digit : (d t rest left : ℕ) → rest * 10 ≡ d * t + left → rest < t → d < 10
small_digit d t rest left split below =
    elim (cases_lt d 10) [
      | inl less ↦ less
      | inr more ↦ let up : 10 ≤ d = omega arith in absurd (omega (arith, mul-le-mul_right t up, split, below))
    ]

more_worth : (ds d t rest left v p after_worth power : ℕ) → ds * t + rest ≡ v * p → rest * 10 ≡ d * t + left → after_worth ≡ ds * 10 + d → power ≡ v * p * 10
    → after_worth * t + left ≡ power
more_worth ds d t rest left v p after_worth power worth split is up =
    let k : after_worth * t ≡ (ds * 10 + d) * t = ap (λ (x : ℕ). x * t) is in
    omega (arith, worth, split, k, up)

no_zero : (d t rest left : ℕ) → 48 + d ≡ 48 → left ≡ 0 → rest * 10 ≡ d * t + left → 0 < rest → ⊥
no_zero d t rest left z none split some =
    let zero_is : d ≡ 0 = omega arith in
    let k : d * t ≡ 0 * t = ap (λ (x : ℕ). x * t) zero_is in
    absurd (omega (arith, k, none, split, some))

pub more_digit : (tens v rest d left : ℕ) (before after next : List ℕ) → 0 < rest → rest * 10 ≡ d * 10 ^ tens + left → left < 10 ^ tens
    → next ≡ after ++ (48 + d) ∷ [] → AddsDigits tens v rest before after → AddsDigits tens v left before next
more_digit tens v rest d left before after next some split low is h =
    let small : d < 10 = small_digit d (10 ^ tens) rest left split h.below in
    let worth : digits_value 10 (h.ds ++ (48 + d) ∷ []) ≡ digits_value 10 h.ds * 10 + d =
    value-append 0 h.ds ((48 + d) ∷ []) ∙ ap (λ (k : ℕ). digits_value 10 h.ds * 10 + k) (digit_worth (48 + d) (digit_byte d small) ∙ omega arith) in
    let longer : length (h.ds ++ (48 + d) ∷ []) ≡ length h.ds + 1 = length_push h.ds (48 + d) in
    let power : v * 10 ^ length (h.ds ++ (48 + d) ∷ []) ≡ v * 10 ^ length h.ds * 10 =
    ap (λ (k : ℕ). v * 10 ^ k) longer ∙ ap (λ (k : ℕ). v * k) (pow-add 10 (length h.ds) 1) ∙ omega arith in
    record {
      ds = h.ds ++ (48 + d) ∷ [];
      added = is ∙ ap (λ (xs : List ℕ). xs ++ (48 + d) ∷ []) h.added ∙ append_assoc before h.ds ((48 + d) ∷ []);
      digits = list_all-append is_ascii_digit h.ds ((48 + d) ∷ []) ∙ rw h.digits (rw (digit_byte d small) refl);
      worth = more_worth (digits_value 10 h.ds) d (10 ^ tens) rest left v (10 ^ length h.ds) _ _ h.worth split worth power;
      below = low;
      few = omega (arith, longer, room tens (length h.ds) (digits_value 10 h.ds) rest v h.few some h.below h.worth);
      last = λ none front e. let z : 48 + d ≡ 48 = same_final h.ds front (48 + d) 48 e in no_zero d (10 ^ tens) rest left z none split some;
    }
