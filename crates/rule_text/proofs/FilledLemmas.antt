-- Tokens that fit a row have bytes where names and strings stand.
use Rattle.std.proofs.Common.{◌≡◌, ℕ, zero, suc, ◌+◌, ◌-◌, ◌*◌, ◌<◌, ◌≤◌, cond, List, [], ◌∷◌, length, take, drop, Bool, true, false, Option, Some, None, refl, sym, ap, subst, arith}
use Rattle.std.proofs.lemmas.Bool.{and_parts}
use Rattle.std.specs.Prelude.{◌&&◌, nat_le, slice_get, unwrap_or}
use Rattle.rule_lines.specs.Tokens.{Token, Word, Text, Mark, Arrow, Bad, is_digit}
use Rattle.rule_text.specs.Rows.{Slot, Fresh, Name, Layer, Guesses, Size, Area, Bound, Digits, Quoted, Exact, Operator, Key, Sign, Maps, is_name, is_string, number_from, number_of, guesses_of, size_of, fits_slot, fits, word_of, word_at}
use Rattle.rule_text.specs.Filled.{FillsSlot, AreFilled}

name_filled : (w : List ℕ) → is_name w ≡ true → 0 < length w
name_filled [] e = absurd cc
name_filled (c ∷ cs) e = omega arith

string_filled : (w : List ℕ) → is_string w ≡ true → 0 < length w
string_filled [] e = absurd cc
string_filled (c ∷ cs) e = omega arith

limit_some : (n : ℕ) → nat_le 1 n ≡ true → 1 ≤ n
limit_some n e = grind (arith, e)

cond_most : (b : Bool) (limit : ℕ) (o : Option ℕ) → unwrap_or o 0 ≤ limit → unwrap_or (cond b o None) 0 ≤ limit
cond_most true limit o h = h
cond_most false limit o h = omega arith

digit_most : (a b : Bool) (limit : ℕ) (o : Option ℕ) → (b ≡ true → unwrap_or o 0 ≤ limit) → unwrap_or (cond (a && b) o None) 0 ≤ limit
digit_most true true limit o h = h refl
digit_most true false limit o h = omega arith
digit_most false b limit o h = omega arith

number_most : (limit n : ℕ) (w : List ℕ) → n ≤ limit → unwrap_or (number_from limit n w) 0 ≤ limit
number_most limit n [] h = h
number_most limit n (b ∷ bs) h =
    digit_most (is_digit b) (nat_le (n * 10 + (b - 0x30)) limit) limit (number_from limit (n * 10 + (b - 0x30)) bs)
    (λ e. let fits : n * 10 + (b - 0x30) ≤ limit = grind (arith, e) in number_most limit (n * 10 + (b - 0x30)) bs fits)

limit_most : (w : List ℕ) → unwrap_or (guesses_of w) 0 ≤ 1000000
limit_most w = cond_most (nat_le 1 (length w) && nat_le (length w) 7) 1000000 (number_from 1000000 0 w) (number_most 1000000 0 w (omega arith))

size_most : (w : List ℕ) → unwrap_or (size_of w) 0 ≤ 10000
size_most w = cond_most (nat_le (length w) 5) 10000 (number_of 10000 w)
    (cond_most (nat_le 1 (length w) && nat_le (length w) 7) 10000 (number_from 10000 0 w) (number_most 10000 0 w (omega arith)))

slot_filled : (s : Slot) (t : Token) → fits_slot s t ≡ true → FillsSlot s (word_of (Some t))
slot_filled Fresh (Word w) e = name_filled w ((and_parts (is_name w) _ e).0)
slot_filled Fresh (Text w) e = absurd cc
slot_filled Fresh (Mark b) e = absurd cc
slot_filled Fresh Arrow e = absurd cc
slot_filled Fresh Bad e = absurd cc
slot_filled Name (Word w) e = name_filled w e
slot_filled Name (Text w) e = absurd cc
slot_filled Name (Mark b) e = absurd cc
slot_filled Name Arrow e = absurd cc
slot_filled Name Bad e = absurd cc
slot_filled Quoted (Text w) e = (string_filled w e, e)
slot_filled Quoted (Word w) e = absurd cc
slot_filled Quoted (Mark b) e = absurd cc
slot_filled Quoted Arrow e = absurd cc
slot_filled Quoted Bad e = absurd cc
slot_filled Exact (Text w) e = string_filled w ((and_parts (is_string w) _ e).0)
slot_filled Exact (Word w) e = absurd cc
slot_filled Exact (Mark b) e = absurd cc
slot_filled Exact Arrow e = absurd cc
slot_filled Exact Bad e = absurd cc
slot_filled Layer t e = tt
slot_filled Area t e = tt
slot_filled Bound t e = tt
slot_filled Digits t e = tt
slot_filled Guesses (Word w) e = (limit_some (unwrap_or (guesses_of w) 0) e, limit_most w)
slot_filled Guesses (Text w) e = absurd cc
slot_filled Guesses (Mark b) e = absurd cc
slot_filled Guesses Arrow e = absurd cc
slot_filled Guesses Bad e = absurd cc
slot_filled Size (Word w) e = (limit_some (unwrap_or (size_of w) 0) e, size_most w)
slot_filled Size (Text w) e = absurd cc
slot_filled Size (Mark b) e = absurd cc
slot_filled Size Arrow e = absurd cc
slot_filled Size Bad e = absurd cc
slot_filled Operator t e = tt
slot_filled (Key k) t e = tt
slot_filled (Sign b) t e = tt
slot_filled Maps t e = tt

token_at : (n : ℕ) (all : List Token) (t : Token) (ts : List Token) → drop n all ≡ t ∷ ts → slice_get all n ≡ Some t
token_at zero [] t ts e = absurd cc
token_at (suc n) [] t ts e = absurd cc
token_at zero (a ∷ all) t ts e = let same : a ≡ t = cc in ap (λ (u : Token). Some u) same
token_at (suc n) (a ∷ all) t ts e = token_at n all t ts e

rest_at : (n : ℕ) (all : List Token) (t : Token) (ts : List Token) → drop n all ≡ t ∷ ts → drop (n + 1) all ≡ ts
rest_at zero [] t ts e = absurd cc
rest_at (suc n) [] t ts e = absurd cc
rest_at zero (a ∷ all) t ts e = cc
rest_at (suc n) (a ∷ all) t ts e = let f : suc (n + 1) ≡ suc n + 1 = omega arith in subst (λ (k : ℕ). drop k (a ∷ all) ≡ ts) f (rest_at n all t ts e)

filled_from : (n : ℕ) (row : List Slot) (ts all : List Token) → drop n all ≡ ts → fits row ts ≡ true → AreFilled n row all
filled_from n [] ts all e h = tt
filled_from n (s ∷ ss) [] all e h = absurd cc
filled_from n (s ∷ ss) (t ∷ ts) all e h = (
  subst (λ (o : Option Token). FillsSlot s (word_of o)) (sym (token_at n all t ts e)) (slot_filled s t ((and_parts (fits_slot s t) _ h).0)),
  filled_from (n + 1) ss ts all (rest_at n all t ts e) ((and_parts (fits_slot s t) _ h).1),
)

pub filled : (row : List Slot) (ts : List Token) → fits row ts ≡ true → AreFilled 0 row ts
filled row ts h = filled_from 0 row ts ts refl h

pub head_word : (ts : List Token) → word_at 4 (take 8 ts) ≡ word_at 4 ts
head_word [] = refl
head_word (a ∷ []) = refl
head_word (a ∷ b ∷ []) = refl
head_word (a ∷ b ∷ c ∷ []) = refl
head_word (a ∷ b ∷ c ∷ d ∷ []) = refl
head_word (a ∷ b ∷ c ∷ d ∷ e ∷ ts) = refl

pub digits_word : (ts : List Token) → word_at 4 (take 10 ts) ≡ word_at 4 ts
digits_word [] = refl
digits_word (a ∷ []) = refl
digits_word (a ∷ b ∷ []) = refl
digits_word (a ∷ b ∷ c ∷ []) = refl
digits_word (a ∷ b ∷ c ∷ d ∷ []) = refl
digits_word (a ∷ b ∷ c ∷ d ∷ e ∷ ts) = refl

pub point_word : (ts : List Token) → word_at 4 (take 12 ts) ≡ word_at 4 ts
point_word [] = refl
point_word (a ∷ []) = refl
point_word (a ∷ b ∷ []) = refl
point_word (a ∷ b ∷ c ∷ []) = refl
point_word (a ∷ b ∷ c ∷ d ∷ []) = refl
point_word (a ∷ b ∷ c ∷ d ∷ e ∷ ts) = refl
