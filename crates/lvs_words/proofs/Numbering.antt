-- Digits that are no number of the range.
use Rattle.std.proofs.Common.{◌≡◌, ◌<◌, ◌^◌, ℕ, Bool, true, false, List, [], ◌∷◌, length, Option, None, Result, Ok, Err, if◌then◌else◌, refl, arith}
use Rattle.std.specs.Str.{all_ascii_digits}
use Rattle.std.specs.Str.Parse.{digits_value, ParsesUnsigned}
use Rattle.std.proofs.lemmas.Str.Parse.{IsNumeralModel, numerals_by_value, tells_all_ascii_digits, parse_digits}
use Rattle.std.proofs.lemmas.Bool.Decides.{nat_tests}
use Rattle.lvs_words.specs.Numbers.{is_number, within, number_in}

own : IsNumeralModel (λ ds. all_ascii_digits ds ≡ true) (digits_value 10)
own = numerals_by_value (λ ds. all_ascii_digits ds ≡ true) tells_all_ascii_digits

within_far : (low high n : ℕ) → high < n → within low high n ≡ None
within_far low high n far = grind (arith, nat_tests)

none_if : (b : Bool) (o : Option ℕ) → (b ≡ true → o ≡ None) → (if b then o else None) ≡ None
none_if true o h = h refl
none_if false o h = refl

some_digit : (word : List ℕ) → is_number word ≡ true → 0 < length word
some_digit [] e = let f : false ≡ true = e in cc
some_digit (c ∷ cs) e = omega arith

above : (a b high : ℕ) → (a < b → ⊥) → high < b → high < a
above a b high not fits = omega arith

-- too great for the type is too great for the range
pub number_far : {E : Type 0} (low high : ℕ) (word : List ℕ) (r : Result ℕ E) (e : E) → ParsesUnsigned 64 10 word r → r ≡ Err e → all_ascii_digits word ≡ true
    → high < 2 ^ 64 → number_in low high word ≡ None
number_far low high word (Ok n) e h is digits fits = cc
number_far low high word (Err f) e h is digits fits =
    let not = parse_digits own 64 word (Err f) h digits in
    none_if (is_number word) (within low high (digits_value 10 word))
    (λ (some : is_number word ≡ true). within_far low high (digits_value 10 word)
    (above (digits_value 10 word) (2 ^ 64) high (λ less. not (some_digit word some, less)) fits))
