-- Numbers of one to four digits.
use Rattle.std.proofs.Common.{◌≡◌, ◌<◌, ◌≤◌, ◌+◌, ◌*◌, ℕ, List, [], ◌∷◌, length, arith}
use Rattle.std.specs.Char.{is_ascii_digit}
use Rattle.std.specs.List.{list_all}
use Rattle.std.specs.Str.Parse.{digits_value, digits_value_after}

-- the numbers before these digits are below
abbrev pub most_before : List ℕ → ℕ
most_before [] = 10000
most_before (a ∷ []) = 1000
most_before (a ∷ b ∷ []) = 100
most_before (a ∷ b ∷ c ∷ []) = 10
most_before (a ∷ b ∷ c ∷ d ∷ more) = 1

-- the digits before the rest have been read
pub record AreRead (text : List ℕ) (n : ℕ) (rest : List ℕ) : Type 0 where
  pub digits : list_all is_ascii_digit rest ≡ list_all is_ascii_digit text
  pub value : digits_value_after 10 n rest ≡ digits_value 10 text
  pub room : n < most_before rest
  pub few : length rest ≤ 4

pub room_more : (n d b : ℕ) (more : List ℕ) → n < most_before (b ∷ more) → length (b ∷ more) ≤ 4 → d < 10 → n * 10 + d < most_before more
room_more n d b [] low few digit = omega arith
room_more n d b (x ∷ []) low few digit = omega arith
room_more n d b (x ∷ y ∷ []) low few digit = omega arith
room_more n d b (x ∷ y ∷ z ∷ []) low few digit = omega arith
room_more n d b (x ∷ y ∷ z ∷ w ∷ more) low few digit = absurd (omega arith)

pub room_first : (text : List ℕ) → length text ≤ 4 → 0 < most_before text
room_first [] few = omega arith
room_first (x ∷ []) few = omega arith
room_first (x ∷ y ∷ []) few = omega arith
room_first (x ∷ y ∷ z ∷ []) few = omega arith
room_first (x ∷ y ∷ z ∷ w ∷ more) few = omega arith
