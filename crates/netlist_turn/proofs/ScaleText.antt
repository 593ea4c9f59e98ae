-- A size by the scale is the product, and its text is worth it.
use Rattle.std.proofs.Common.{◌≡◌, inl, inr, ℕ, suc, ◌+◌, ◌*◌, ◌/◌, ◌%◌, ◌^◌, ◌==◌, ◌<◌, ◌≤◌, Bool, true, false, List, [], ◌∷◌, ◌++◌, length, drop, map, Option, Some, None, Result, Ok, Err, refl, sym, ap, subst, ◌∙◌, arith}
use Rattle.std.specs.Prelude.{decimal, ◌&&◌, if◌then◌else◌}
use Rattle.std.proofs.lemmas.Fmt.{decimal_is_IsNumeral_wide, length-decimal-le_wide}
use Rattle.std.proofs.lemmas.Nat.{div-add-mod'}
use Rattle.std.proofs.lemmas.Int.Digits.{digits_value-lt}
use Rattle.std.proofs.Math.Nat.{eq-or-lt_of_le, pow-suc, div-le_self, mod-add-div', mod-lt, mul_assoc, mul_right_comm}
use Rattle.std.proofs.lemmas.Bool.Decides.{Decides-eqb, nat_tests}
use Rattle.std.specs.List.{list_all}
use Rattle.std.specs.Char.{is_ascii_alphabetic, is_ascii_digit, digit_value, to_ascii_lowercase}
use Rattle.std.specs.Str.Parse.{AllDigits, digits_value, digits_value_after}
use Rattle.fixed_num.specs.declared.femto.ValueFault.{ValueFault}
use Rattle.fixed_num.specs.declared.femto.ValueFault.TheVariants.{TooFine, TooLarge}
use Rattle.fixed_num.specs.Values.{Number, Parts, AreDigits, number_in, raised, suffix_of, IsArea, IsNumber, IsWorth}
use Rattle.fixed_num.specs.Scan.{number_of, some_raised}
use Rattle.fixed_num.proofs.Digits.{value-append}
use Rattle.fixed_num.proofs.Decisions.{ten_mono}
use Rattle.fixed_num.proofs.Spelling.{complete, sound}
use Rattle.spice_rows.specs.Sizes.{area_of, is_above, settled, value_at, value_of}
use Rattle.spice_rows.proofs.ValueLemmas.{positive, settled_is, within}
use Rattle.netlist_turn.specs.Scale.{by_scale, micro_text, pico_text, places_text, raised_by, scaled_area, scaled_length}
use Rattle.netlist_turn.specs.ScaleLaw.{IsProduct, IsSquared}

-- ---- the product

settled_by : (b c : Bool) (a d n : ℕ) → (c ≡ true → a / d * d ≡ a) → (if b then (let r : Result ℕ ValueFault = Err TooLarge in r) else if c then Ok (a / d) else Err TooFine) ≡ Ok n → n * d ≡ a
settled_by true c a d n h e = absurd cc
settled_by false true a d n h e = let same : a / d ≡ n = cc in ap (λ (x : ℕ). x * d) (sym same) ∙ h refl
settled_by false false a d n h e = absurd cc

-- what is settled is exact
settled_ok : (limit : Option ℕ) (a d n : ℕ) → settled limit a d ≡ Ok n → n * d ≡ a
settled_ok limit a d n e =
    settled_by (is_above limit a d) (a % d == 0) a d n
    (λ t. let none : a % d ≡ 0 = (Decides-eqb (a % d) 0).0 t in let split : a % d + a / d * d ≡ a = mod-add-div' a d in omega (arith, none, split)) e

area_is : (o : Option Number) (text : List ℕ) (a : ℕ) → number_of text ≡ o → value_at (Some (10 ^ 30)) (some_raised 9 o) ≡ Ok a → IsArea text a
area_is None text a e h = absurd cc
area_is (Some n) text a e h = record {
  number = n;
  read = sound text n e;
  worth = sym (settled_ok (Some (10 ^ 30)) (n.mantissa * 10 ^ (9 + n.up)) (10 ^ n.down) a h);
}

length_by : (scale : ℕ) (text : List ℕ) (n : ℕ) (r : Result ℕ ValueFault) → area_of (Some (10 ^ 30)) text ≡ r → by_scale scale r ≡ Ok n → IsProduct scale text n
length_by scale text n (Ok a) e h = record {
  size = a;
  worth = area_is (number_of text) text a refl e;
  exact = settled_ok (Some (10 ^ 14)) (a * scale) (10 ^ 24) n h;
}
length_by scale text n (Err f) e h = absurd cc

pub product_is : (scale : ℕ) (text : List ℕ) (n : ℕ) → scaled_length scale text ≡ Ok n → IsProduct scale text n
product_is scale text n h = length_by scale text n (area_of (Some (10 ^ 30)) text) refl h

-- twice by the scale
twice : (n b a s : ℕ) → n * 10 ^ 15 ≡ b * s → b * 10 ^ 15 ≡ a * s → n * 10 ^ 30 ≡ a * (s * s)
twice n b a s outer inner =
    let first : n * 10 ^ 30 ≡ (n * 10 ^ 15) * 10 ^ 15 = omega arith in
    let moved : (b * s) * 10 ^ 15 ≡ (b * 10 ^ 15) * s = mul_right_comm b s (10 ^ 15) in
    first ∙ ap (λ (x : ℕ). x * 10 ^ 15) outer ∙ moved ∙ ap (λ (x : ℕ). x * s) inner ∙ mul_assoc a s s

squared_by : (scale : ℕ) (text : List ℕ) (n : ℕ) (r t : Result ℕ ValueFault) → area_of (Some (10 ^ 30)) text ≡ r → raised_by scale r ≡ t → raised_by scale t ≡ Ok n → IsSquared scale text n
squared_by scale text n (Ok a) (Ok b) e f h = record {
  size = a;
  worth = area_is (number_of text) text a refl e;
  exact = twice n b a scale (settled_ok (Some (10 ^ 23)) (b * scale) (10 ^ 15) n h) (settled_ok (Some (10 ^ 23)) (a * scale) (10 ^ 15) b f);
}
squared_by scale text n (Ok a) (Err x) e f h = absurd cc
squared_by scale text n (Err x) (Ok b) e f h = absurd cc
squared_by scale text n (Err x) (Err y) e f h = absurd cc

pub squared_is : (scale : ℕ) (text : List ℕ) (n : ℕ) → scaled_area scale text ≡ Ok n → IsSquared scale text n
squared_is scale text n h =
    squared_by scale text n (area_of (Some (10 ^ 30)) text) (raised_by scale (area_of (Some (10 ^ 30)) text)) refl refl h

-- ---- the text

one_digit : (b : ℕ) → digit_value b < 10 → is_ascii_digit b ≡ true
one_digit b h = grind (arith, nat_tests)

all_digits : (ds : List ℕ) → AllDigits 10 ds → AreDigits ds
all_digits [] h = refl
all_digits (d ∷ ds) h = ap (λ (t : Bool). t && list_all is_ascii_digit ds) (one_digit d h.0) ∙ all_digits ds h.1

value_shift : (n : ℕ) (ds : List ℕ) → digits_value_after 10 n ds ≡ n * 10 ^ length ds + digits_value_after 10 0 ds
value_shift n [] = omega arith
value_shift n (d ∷ ds) =
    omega (arith, value_shift (n * 10 + digit_value d) ds, value_shift (0 * 10 + digit_value d) ds, ap (λ (k : ℕ). n * k) (pow-suc 10 (length ds)))

-- so many digits, which are worth r
record ArePlaces (k r : ℕ) (ds : List ℕ) : Type 0 where
  digits : AreDigits ds
  long : length ds ≡ k
  worth : digits_value 10 ds ≡ r

-- a number of so many digits has them
places_or : (k n v : ℕ) → v < 10 ^ suc n → 10 ^ k ≤ v → n ≤ k → n ≡ k
places_or k n v h low l = elim (eq-or-lt_of_le l) [
  | inl same ↦ same
  | inr under ↦ let wide : 10 ^ suc n ≤ 10 ^ k = ten_mono (suc n) k under in absurd (omega (arith, h, low, wide))
]

-- where the first of them is one, the others are worth r
abbrev IsLed : ℕ → ℕ → Type 0
IsLed p r = (q u : ℕ) → q * p + u ≡ p + r → u < p → u ≡ r

-- behind the first of them
places_of_ten : (k r : ℕ) (ds : List ℕ) → r < 10 ^ k → IsLed (10 ^ k) r → AllDigits 10 ds → digits_value 10 ds ≡ 10 ^ k + r → length ds ≤ suc k → ArePlaces k r (drop 1 ds)
places_of_ten k r [] low led all worth few = let some : 0 < 10 ^ k = positive k in let none : digits_value 10 [] ≡ 0 = refl in absurd (omega (arith, worth, some, none))
places_of_ten k r (d ∷ ds) low led all worth few =
    let less = digits_value-lt 10 (d ∷ ds) all in
    let behind = digits_value-lt 10 ds all.1 in
    let high : 10 ^ k ≤ digits_value 10 (d ∷ ds) = omega (arith, worth) in
    let long : length ds ≡ k = places_or k (length ds) (digits_value 10 (d ∷ ds)) less high (omega (arith, few)) in
    let first : digits_value 10 (d ∷ ds) ≡ (0 * 10 + digit_value d) * 10 ^ length ds + digits_value 10 ds = value_shift (0 * 10 + digit_value d) ds in
    let at : digits_value 10 (d ∷ ds) ≡ (0 * 10 + digit_value d) * 10 ^ k + digits_value 10 ds = first ∙ ap (λ (j : ℕ). (0 * 10 + digit_value d) * 10 ^ j + digits_value 10 ds) long in
    let under : digits_value 10 ds < 10 ^ k = subst (λ (j : ℕ). digits_value 10 ds < 10 ^ j) long behind in
    record { digits = all_digits ds all.1; long = long; worth = led (0 * 10 + digit_value d) (digits_value 10 ds) (sym at ∙ worth) under }

abbrev parts_of : ℕ → List ℕ → ℕ → Parts
parts_of k letters n = record { whole = decimal (n / 10 ^ k); fraction = Some (drop 1 (decimal (10 ^ k + n % 10 ^ k))); exponent = None; letters = letters }

-- the digits behind the point
micro_places : (n : ℕ) → ArePlaces 9 (n % 10 ^ 9) (drop 1 (decimal (10 ^ 9 + n % 10 ^ 9)))
micro_places n =
    let low : n % 10 ^ 9 < 10 ^ 9 = mod-lt n (positive 9) in
    let led : IsLed (10 ^ 9) (n % 10 ^ 9) = λ q u e l. omega (arith, e, l, low) in
    let all = decimal_is_IsNumeral_wide (10 ^ 9 + n % 10 ^ 9) (omega (arith, low)) in
    places_of_ten 9 (n % 10 ^ 9) (decimal (10 ^ 9 + n % 10 ^ 9)) low led all.0.1 all.1 (length-decimal-le_wide 10 (10 ^ 9 + n % 10 ^ 9) (omega arith) (omega (arith, low)) (omega (arith, low)))

pico_places : (n : ℕ) → ArePlaces 12 (n % 10 ^ 12) (drop 1 (decimal (10 ^ 12 + n % 10 ^ 12)))
pico_places n =
    let low : n % 10 ^ 12 < 10 ^ 12 = mod-lt n (positive 12) in
    let led : IsLed (10 ^ 12) (n % 10 ^ 12) = λ q u e l. omega (arith, e, l, low) in
    let all = decimal_is_IsNumeral_wide (10 ^ 12 + n % 10 ^ 12) (omega (arith, low)) in
    places_of_ten 12 (n % 10 ^ 12) (decimal (10 ^ 12 + n % 10 ^ 12)) low led all.0.1 all.1 (length-decimal-le_wide 13 (10 ^ 12 + n % 10 ^ 12) (omega arith) (omega (arith, low)) (omega (arith, low)))

-- whole ones are no more than all
whole_of : (k n : ℕ) → n ≤ 10 ^ 30 → n / 10 ^ k < 10 ^ 64
whole_of k n l = let least : n / 10 ^ k ≤ n = div-le_self n (10 ^ k) in omega (arith, l, least)

-- what the digits are worth
worth_of : (k n : ℕ) → n ≤ 10 ^ 30 → ArePlaces k (n % 10 ^ k) (drop 1 (decimal (10 ^ k + n % 10 ^ k)))
    → digits_value 10 (decimal (n / 10 ^ k) ++ drop 1 (decimal (10 ^ k + n % 10 ^ k))) ≡ n
worth_of k n l places =
    let q : ℕ = n / 10 ^ k in
    let ds : List ℕ = drop 1 (decimal (10 ^ k + n % 10 ^ k)) in
    let all = decimal_is_IsNumeral_wide (n / 10 ^ k) (whole_of k n l) in
    let mantissa : digits_value 10 (decimal q ++ ds) ≡ q * 10 ^ length ds + digits_value 10 ds =
    value-append 0 (decimal q) ds ∙ value_shift (digits_value 10 (decimal q)) ds ∙ ap (λ (x : ℕ). x * 10 ^ length ds + digits_value 10 ds) all.1 in
    let long : q * 10 ^ length ds + digits_value 10 ds ≡ q * 10 ^ k + n % 10 ^ k =
    ap (λ (j : ℕ). q * 10 ^ j + digits_value 10 ds) places.long ∙ ap (λ (x : ℕ). q * 10 ^ k + x) places.worth in
    mantissa ∙ long ∙ div-add-mod' n (10 ^ k)

is_number : (k suffix n : ℕ) (letters : List ℕ) → n ≤ 10 ^ 30 → ArePlaces k (n % 10 ^ k) (drop 1 (decimal (10 ^ k + n % 10 ^ k))) → list_all is_ascii_alphabetic letters ≡ true
    → suffix_of (map to_ascii_lowercase letters) ≡ Some suffix → IsNumber (places_text k letters n) (number_in (parts_of k letters n) suffix)
is_number k suffix n letters l places alphabetic begins =
    let all = decimal_is_IsNumeral_wide (n / 10 ^ k) (whole_of k n l) in
    record {
      parts = parts_of k letters n;
      suffix = suffix;
      spelled = record { spelled = refl; whole = all_digits (decimal (n / 10 ^ k)) all.0.1; places = places.digits; some = omega (arith, all.0.0); exponent = tt; letters = alphabetic; begins = begins };
      worth = refl;
    }

-- what is written is read as it was
pub written_is : (n : ℕ) → n ≤ 10 ^ 18 → value_of (Some (10 ^ 18)) (micro_text n) ≡ Ok n
written_is n l =
    let wide : n ≤ 10 ^ 30 = omega (arith, l) in
    let places = micro_places n in
    let number = number_in (parts_of 9 (85 ∷ []) n) 9 in
    let down : 9 + 0 ≡ length (drop 1 (decimal (10 ^ 9 + n % 10 ^ 9))) + 0 = omega (arith, places.long) in
    let worth : IsWorth (number_in (parts_of 9 (85 ∷ []) n) 9) n = ap (λ (x : ℕ). x * 10 ^ (9 + 0)) (worth_of 9 n wide places) ∙ ap (λ (k : ℕ). n * 10 ^ k) down in
    ap (λ (o : Option Number). value_at (Some (10 ^ 18)) o) (complete (micro_text n) number (is_number 9 9 n (85 ∷ []) wide places refl refl))
    ∙ settled_is (Some (10 ^ 18)) (number.mantissa * 10 ^ number.up) (10 ^ number.down) n (positive number.down) worth (within (10 ^ 18) (10 ^ number.down) n l)

pub area_written_is : (n : ℕ) → n ≤ 10 ^ 30 → area_of (Some (10 ^ 30)) (pico_text n) ≡ Ok n
area_written_is n l =
    let places = pico_places n in
    let number = raised 9 (number_in (parts_of 12 (80 ∷ []) n) 3) in
    let down : 9 + (3 + 0) ≡ length (drop 1 (decimal (10 ^ 12 + n % 10 ^ 12))) + 0 = omega (arith, places.long) in
    let worth : IsWorth (raised 9 (number_in (parts_of 12 (80 ∷ []) n) 3)) n = ap (λ (x : ℕ). x * 10 ^ (9 + (3 + 0))) (worth_of 12 n l places) ∙ ap (λ (k : ℕ). n * 10 ^ k) down in
    ap (λ (o : Option Number). value_at (Some (10 ^ 30)) (some_raised 9 o)) (complete (pico_text n) (number_in (parts_of 12 (80 ∷ []) n) 3) (is_number 12 3 n (80 ∷ []) l places refl refl))
    ∙ settled_is (Some (10 ^ 30)) (number.mantissa * 10 ^ number.up) (10 ^ number.down) n (positive number.down) worth (within (10 ^ 30) (10 ^ number.down) n l)
