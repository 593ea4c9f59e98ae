-- Micrometres with a U behind them, and square micrometres with a P, are worth what was written.
use Rattle.std.proofs.Common.{◌≡◌, ℕ, ◌+◌, ◌*◌, ◌/◌, ◌%◌, ◌^◌, ◌<◌, Bool, true, List, [], ◌∷◌, ◌++◌, length, map, Option, Some, None, ◌≤◌, refl, sym, ap, subst, ◌∙◌, append_assoc, arith}
use Rattle.std.specs.Prelude.{decimal, ◌&&◌}
use Rattle.std.proofs.lemmas.Fmt.{decimal_is_IsNumeral_wide}
use Rattle.std.proofs.lemmas.Nat.{div-add-mod'}
use Rattle.std.proofs.Math.Nat.{pow-suc, div-le_self}
use Rattle.std.proofs.lemmas.Bool.Decides.{nat_tests}
use Rattle.std.specs.List.{list_all}
use Rattle.std.specs.Char.{is_ascii_digit, is_ascii_alphabetic, to_ascii_lowercase, digit_value}
use Rattle.std.specs.Str.Parse.{AllDigits, digits_value, digits_value_after}
use Rattle.fixed_num.specs.Values.{Parts, fraction_text, places_of, AreDigits, suffix_of, number_in, IsNumber, IsWorth, IsValue, IsArea}
use Rattle.fixed_num.specs.Microns.{pointed, IsOver, IsMicrons, IsSquareMicrons}
use Rattle.fixed_num.proofs.Digits.{value-append}

one_digit : (b : ℕ) → digit_value b < 10 → is_ascii_digit b ≡ true
one_digit b h = grind (arith, nat_tests)

all_digits : (ds : List ℕ) → AllDigits 10 ds → AreDigits ds
all_digits [] h = refl
all_digits (d ∷ ds) h = ap (λ (t : Bool). t && list_all is_ascii_digit ds) (one_digit d h.0) ∙ all_digits ds h.1

value_shift : (n : ℕ) (ds : List ℕ) → digits_value_after 10 n ds ≡ n * 10 ^ length ds + digits_value_after 10 0 ds
value_shift n [] = omega arith
value_shift n (d ∷ ds) =
    omega (arith, value_shift (n * 10 + digit_value d) ds, value_shift (0 * 10 + digit_value d) ds, ap (λ (k : ℕ). n * k) (pow-suc 10 (length ds)))

abbrev behind : List ℕ → Option (List ℕ)
behind [] = None
behind (d ∷ ds) = Some (d ∷ ds)

behind-text : (ds : List ℕ) → pointed ds ≡ fraction_text (behind ds)
behind-text [] = refl
behind-text (d ∷ ds) = refl

behind-places : (ds : List ℕ) → ds ≡ places_of (behind ds)
behind-places [] = refl
behind-places (d ∷ ds) = refl

same_worth : (m a p f t w r : ℕ) → m * t ≡ (a * p + f) * t → w ≡ (a * t + r) * p → f * t ≡ r * p → m * t ≡ w
same_worth m a p f t w r e s h = omega (arith, e, s, h)

abbrev parts_of : ℕ → ℕ → ℕ → List ℕ → Parts
parts_of tens letter v ds = record { whole = decimal (v / 10 ^ tens); fraction = behind ds; exponent = None; letters = letter ∷ [] }

-- the text with a letter behind it is the number of its parts
spelled : (tens letter suffix v : ℕ) (text : List ℕ) → v < 2 ^ 128 → list_all is_ascii_alphabetic (letter ∷ []) ≡ true
    → suffix_of (map to_ascii_lowercase (letter ∷ [])) ≡ Some suffix → (h : IsOver tens v text)
    → IsNumber (text ++ letter ∷ []) (number_in (parts_of tens letter v h.fraction) suffix)
spelled tens letter suffix v text fits letters begins h =
    let a : ℕ = v / 10 ^ tens in
    let ds = h.fraction in
    let least : a ≤ v = div-le_self v (10 ^ tens) in
    let small : a < 10 ^ 64 = omega (arith, least) in
    let n = decimal_is_IsNumeral_wide a small in
    record {
      parts = parts_of tens letter v ds;
      suffix = suffix;
      spelled = record {
        spelled = ap (λ (t : List ℕ). t ++ letter ∷ []) h.spelled ∙ append_assoc (decimal a) (pointed ds) (letter ∷ [])
            ∙ ap (λ (t : List ℕ). decimal a ++ (t ++ letter ∷ [])) (behind-text ds);
        whole = all_digits (decimal a) n.0.1;
        places = subst AreDigits (behind-places ds) h.rest.digits;
        some = omega (arith, n.0.0);
        exponent = tt;
        letters = letters;
        begins = begins;
      };
      worth = refl;
    }

-- and so many of 10 ^ -tens
worth : (tens letter v : ℕ) (text : List ℕ) → v < 2 ^ 128 → (h : IsOver tens v text) → IsWorth (number_in (parts_of tens letter v h.fraction) tens) v
worth tens letter v text fits h =
    let a : ℕ = v / 10 ^ tens in
    let ds = h.fraction in
    let k : ℕ = length ds in
    let least : a ≤ v = div-le_self v (10 ^ tens) in
    let small : a < 10 ^ 64 = omega (arith, least) in
    let n = decimal_is_IsNumeral_wide a small in
    let mantissa : digits_value 10 (decimal a ++ ds) ≡ a * 10 ^ k + digits_value 10 ds =
    value-append 0 (decimal a) ds ∙ value_shift (digits_value 10 (decimal a)) ds ∙ ap (λ (x : ℕ). x * 10 ^ k + digits_value 10 ds) n.1 in
    let split : v * 10 ^ k ≡ (a * 10 ^ tens + v % 10 ^ tens) * 10 ^ k = ap (λ (x : ℕ). x * 10 ^ k) (sym (div-add-mod' v (10 ^ tens))) in
    let parts : digits_value 10 (decimal a ++ ds) * 10 ^ tens ≡ (a * 10 ^ k + digits_value 10 ds) * 10 ^ tens = ap (λ (x : ℕ). x * 10 ^ tens) mantissa in
    let all : digits_value 10 (decimal a ++ ds) * 10 ^ tens ≡ v * 10 ^ k = same_worth (digits_value 10 (decimal a ++ ds)) a (10 ^ k) (digits_value 10 ds) (10 ^ tens) (v * 10 ^ k) (v % 10 ^ tens) parts split h.rest.worth in
    subst (λ (xs : List ℕ). digits_value 10 (decimal a ++ xs) * 10 ^ (tens + 0) ≡ v * 10 ^ (length xs + 0)) (behind-places ds)
    (ap (λ (j : ℕ). digits_value 10 (decimal a ++ ds) * 10 ^ j) (let z : tens + 0 ≡ tens = omega arith in z) ∙ all ∙ ap (λ (j : ℕ). v * 10 ^ j) (let z : k ≡ k + 0 = omega arith in z))

pub read_back : (v : ℕ) (text : List ℕ) → v < 2 ^ 128 → IsMicrons v text → IsValue (text ++ 85 ∷ []) v
read_back v text fits h = record {
  number = number_in (parts_of 9 85 v h.fraction) 9;
  read = spelled 9 85 9 v text fits refl refl h;
  worth = worth 9 85 v text fits h;
}

-- P is 10 ^ -12, and a square micrometre 10 ^ -12 square metres
pub area_back : (v : ℕ) (text : List ℕ) → v < 2 ^ 128 → IsSquareMicrons v text → IsArea (text ++ 80 ∷ []) v
area_back v text fits h = record {
  number = number_in (parts_of 12 80 v h.fraction) 3;
  read = spelled 12 80 3 v text fits refl refl h;
  worth = worth 12 80 v text fits h;
}
