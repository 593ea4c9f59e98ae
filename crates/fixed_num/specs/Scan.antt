-- What one pass over a value's text finds, and what its steps keep.
use Rattle.std.specs.Prelude.{◌≡◌, ℕ, ◌+◌, ◌*◌, ◌^◌, ◌<◌, ◌≤◌, ◌%◌, Bool, true, false, ◌==◌, ◌&&◌}
use Rattle.std.specs.Prelude.{List, [], ◌∷◌, ◌++◌, length, map, drop, Option, Some, None, Result}
use Rattle.std.specs.Prelude.{Ok, Err, if◌then◌else◌}
use Rattle.std.specs.List.{list_all, prefix_len, take_while}
use Rattle.std.specs.Char.{is_ascii_digit, is_ascii_alphabetic, to_ascii_lowercase}
use Rattle.std.specs.Str.Parse.{digits_value}
use Rattle.fixed_num.specs.declared.femto.Femto.{Femto}
use Rattle.fixed_num.specs.declared.femto.ValueFault.{ValueFault}
use Rattle.fixed_num.specs.declared.femto.ValueFault.TheVariants.{NotNumber, TooLarge, TooFine}
use Rattle.fixed_num.specs.declared.power.Power.{Power as ScannedPower}
use Rattle.fixed_num.specs.Values.{Number, IsWorth, IsOver, raised, suffix_of}

-- mantissa * 10 ^ up / 10 ^ down
abbrev pub fraction : ℕ → ℕ → ℕ → Number
fraction mantissa up down = record { mantissa = mantissa; up = up; down = down }

-- the digits at a text's head
abbrev pub digits_of : List ℕ → List ℕ
digits_of text = take_while is_ascii_digit text

-- what is behind them
abbrev pub after_digits : List ℕ → List ℕ
after_digits text = drop (prefix_len is_ascii_digit text) text

-- the digits behind a point (46), where the text begins with one
abbrev pub fraction_of : List ℕ → List ℕ
fraction_of [] = []
fraction_of (b ∷ bs) = if b == 46 then digits_of bs else []

-- what is behind them
abbrev pub after_fraction : List ℕ → List ℕ
after_fraction [] = []
after_fraction (b ∷ bs) = if b == 46 then after_digits bs else b ∷ bs

-- an exponent, and what is behind it
pub record Power : Type 0 where
  pub minus : Bool
  pub digits : List ℕ
  pub rest : List ℕ

-- an exponent's digits at a text's head
abbrev pub power_with : Bool → List ℕ → Power
power_with minus text = record { minus = minus; digits = digits_of text; rest = after_digits text }

-- an optional sign and the digits
abbrev pub signed_power : List ℕ → Power
signed_power [] = power_with false []
signed_power (b ∷ bs) = if b == 43 then power_with false bs else if b
    == 45 then power_with true bs else power_with false (b ∷ bs)

-- an exponent of one digit or more
abbrev pub has_digits : Power → Option Power
has_digits p = if length p.digits == 0 then None else Some p

-- what stands behind a value's digits: an exponent, where it begins with e (101)
abbrev pub power_of : List ℕ → Option Power
power_of [] = Some (record { minus = false; digits = []; rest = [] })
power_of (b ∷ bs) = if to_ascii_lowercase b
    == 101 then has_digits (signed_power bs) else Some
    (record { minus = false; digits = []; rest = b ∷ bs })

-- the suffix of what stands behind the number, where that is letters
abbrev pub unit_of : List ℕ → Option ℕ
unit_of rest =
    if list_all is_ascii_alphabetic rest then suffix_of (map to_ascii_lowercase rest) else None

-- the number of its parts
abbrev pub number_at : List ℕ → List ℕ → Power → ℕ → Number
number_at whole places p unit =
    fraction (digits_value 10 (whole ++ places))
    (unit + (if p.minus then 0 else digits_value 10 p.digits))
    (length places + (if p.minus then digits_value 10 p.digits else 0))

-- the number, where there is a suffix
abbrev pub with_unit : List ℕ → List ℕ → Power → Option ℕ → Option Number
with_unit whole places p None = None
with_unit whole places p (Some unit) = Some (number_at whole places p unit)

-- the number, where the exponent is in order
abbrev pub with_power : List ℕ → List ℕ → Option Power → Option Number
with_power whole places None = None
with_power whole places (Some p) = with_unit whole places p (unit_of p.rest)

-- the number, where there is a digit
abbrev pub with_digits : List ℕ → List ℕ → List ℕ → Option Number
with_digits whole places rest = if length whole == 0 && length places
    == 0 then None else with_power whole places (power_of rest)

-- the number that a text is: its digits, those behind its point, its exponent and its suffix
abbrev pub number_of : List ℕ → Option Number
number_of text = with_digits (digits_of text) (fraction_of (after_digits text))
    (after_fraction (after_digits text))

-- what the code found of an exponent
abbrev pub power_seen : ScannedPower → Power
power_seen p = record { minus = p.minus; digits = p.digits.now; rest = p.rest.now }

-- the answer for a number, or for none, where it may be 10 ^ tens at most
abbrev pub AnswersUpTo : ℕ → Option Number → Result ℕ ValueFault → Type 0
AnswersUpTo tens None (Ok v) = ⊥
AnswersUpTo tens None (Err NotNumber) = Unit {0}
AnswersUpTo tens None (Err TooLarge) = ⊥
AnswersUpTo tens None (Err TooFine) = ⊥
AnswersUpTo tens (Some n) (Ok v) = IsWorth n v × (v ≤ 10 ^ tens)
AnswersUpTo tens (Some n) (Err NotNumber) = ⊥
AnswersUpTo tens (Some n) (Err TooLarge) = IsOver tens n
AnswersUpTo tens (Some n) (Err TooFine) = (IsOver tens n → ⊥) × ((v : ℕ) → IsWorth n v → ⊥)

-- an answer in femtometres
abbrev pub in_femto : Result Femto ValueFault → Result ℕ ValueFault
in_femto (Ok f) = Ok f.0
in_femto (Err e) = Err e

abbrev pub Answers : Option Number → Result Femto ValueFault → Type 0
Answers n result = AnswersUpTo 18 n (in_femto result)

-- a number times 10 ^ tens, where there is one
abbrev pub some_raised : ℕ → Option Number → Option Number
some_raised tens None = None
some_raised tens (Some n) = Some (raised tens n)

-- m is its significant digits, which are counted, and the zeros behind them; value is their worth
-- where they are 31 at most
pub record IsStripped (count value zeros m : ℕ) : Type 0 where
  pub significant : ℕ
  pub number : significant * 10 ^ zeros ≡ m
  pub none : count ≡ 0 → zeros ≡ 0
  pub last : 0 < count → 0 < significant % 10
  pub low : 0 < count → 10 ^ count ≤ 10 * significant
  pub high : significant < 10 ^ count
  pub small : count ≤ 31 → value ≡ significant

-- n itself, or a stand-in of the same size class where it is 2 ^ 80 or more
pub record IsCapped (n r : ℕ) : Type 0 where
  pub exact : r < 2 ^ 80 → r ≡ n
  pub far : 2 ^ 80 ≤ r → 2 ^ 80 ≤ n
  pub fits : r < 2 ^ 90

-- the exponents of ten u and d themselves, or stand-ins where one of them is 2 ^ 80 or more
pub data IsScale (up down u d : ℕ) : Type 0 where
  Exact : up ≡ u → down ≡ d → IsScale up down u d
  FarUp : 2 ^ 80 ≤ up → 2 ^ 80 ≤ u → down ≡ d → d < 2 ^ 70 → IsScale up down u d
  FarDown : 2 ^ 80 ≤ down → 2 ^ 80 ≤ d → up ≡ u → u < 2 ^ 70 → IsScale up down u d
