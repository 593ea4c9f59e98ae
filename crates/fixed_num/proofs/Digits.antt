-- Decimal digits and the numbers that they write.
use Rattle.std.proofs.Common.{◌≡◌, ℕ, zero, suc, ◌+◌, ◌-◌, ◌*◌, ◌<◌, ◌≤◌, Bool, true, false, List, [], ◌∷◌, ◌++◌, length, take, get_or, refl, ap, ◌∙◌, arith}
use Rattle.std.proofs.lemmas.List.{take_more}
use Rattle.std.proofs.lemmas.Grind.{common_steps}
use Rattle.std.proofs.lemmas.Bool.Decides.{nat_tests}
use Rattle.std.specs.List.{list_all, prefix_len}
use Rattle.std.specs.Prelude.{cond}
use Rattle.std.specs.Char.{is_ascii_digit, digit_value}
use Rattle.std.specs.Str.Parse.{digits_value_after}

pub digit_bounds : (b : ℕ) → is_ascii_digit b ≡ true → (48 ≤ b) × (b ≤ 57)
digit_bounds b h = (grind (arith, nat_tests), grind (arith, nat_tests))

pub digit_worth : (b : ℕ) → is_ascii_digit b ≡ true → digit_value b ≡ b - 48
digit_worth b h = let k = digit_bounds b h in grind (arith, nat_tests)

pub digit_at : (ds : List ℕ) (i : ℕ) → list_all is_ascii_digit ds ≡ true → i < length ds → is_ascii_digit (get_or ds i 0) ≡ true
digit_at [] i h l = absurd (omega arith)
digit_at (d ∷ ds) zero h l = grind arith
digit_at (d ∷ ds) (suc i) h l =
    let rest : list_all is_ascii_digit ds ≡ true = grind arith in
    digit_at ds i rest (omega arith)

pub value-append : (n : ℕ) (ds es : List ℕ) → digits_value_after 10 n (ds ++ es) ≡ digits_value_after 10 (digits_value_after 10 n ds) es
value-append n [] es = refl
value-append n (d ∷ ds) es = value-append (n * 10 + digit_value d) ds es

pub value_more : (n : ℕ) (ds : List ℕ) (i : ℕ) → list_all is_ascii_digit ds ≡ true → i < length ds
    → digits_value_after 10 n (take (i + 1) ds) ≡ digits_value_after 10 n (take i ds) * 10 + (get_or ds i 0 - 48)
value_more n ds i h l =
    ap (digits_value_after 10 n) (take_more ds i 0 l)
    ∙ value-append n (take i ds) (get_or ds i 0 ∷ [])
    ∙ ap (λ (k : ℕ). digits_value_after 10 n (take i ds) * 10 + k) (digit_worth (get_or ds i 0) (digit_at ds i h l))

pub front_digits : (text : List ℕ) → list_all is_ascii_digit (take (prefix_len is_ascii_digit text) text) ≡ true
front_digits [] = refl
front_digits (b ∷ bs) = front (is_ascii_digit b) b bs refl (front_digits bs)
  where
    front : (t : Bool) (b : ℕ) (bs : List ℕ) → is_ascii_digit b ≡ t → list_all is_ascii_digit (take (prefix_len is_ascii_digit bs) bs) ≡ true
        → list_all is_ascii_digit (take (cond t (1 + prefix_len is_ascii_digit bs) 0) (b ∷ bs)) ≡ true
    front false b bs e h = refl
    front true b bs e h = grind (arith, common_steps)
