-- What the text of a SPICE value is worth: an exact fraction, of a length in femtometres, of an area
-- in square picometres.
use Rattle.std.specs.Prelude.{◌≡◌, ℕ, ◌+◌, ◌*◌, ◌^◌, ◌<◌, Bool, true, false, ◌==◌, ◌&&◌, List, []}
use Rattle.std.specs.Prelude.{◌∷◌, ◌++◌, length, map, Option, Some, None, if◌then◌else◌}
use Rattle.std.specs.List.{list_all}
use Rattle.std.specs.Char.{is_ascii_digit, is_ascii_alphabetic, to_ascii_lowercase}
use Rattle.std.specs.Str.Parse.{digits_value}

-- a number of 10 ^ -15 metres, or square metres: mantissa * 10 ^ up / 10 ^ down
pub record Number : Type 0 where
  pub mantissa : ℕ
  pub up : ℕ
  pub down : ℕ

-- the number is f, in whole ones
abbrev pub IsWorth : Number → ℕ → Type 0
IsWorth n f = n.mantissa * 10 ^ n.up ≡ f * 10 ^ n.down

-- the number is above 10 ^ tens
abbrev pub IsOver : ℕ → Number → Type 0
IsOver tens n = 10 ^ tens * 10 ^ n.down < n.mantissa * 10 ^ n.up

-- the number is above 10 ^ 18
abbrev pub IsAbove : Number → Type 0
IsAbove n = IsOver 18 n

-- the number times 10 ^ tens
abbrev pub raised : ℕ → Number → Number
raised tens n = record { mantissa = n.mantissa; up = tens + n.up; down = n.down }

-- 10 ^ -15 square metres are 10 ^ 9 square picometres
abbrev pub in_area : Number → Number
in_area n = raised 9 n

-- the sign of an exponent: none, `+` or `-`
pub data Sign : Type 0 where
  Unsigned : Sign
  Plus : Sign
  Minus : Sign

-- an exponent: the letter e in either case, a sign and digits
pub record Exponent : Type 0 where
  pub mark : ℕ
  pub sign : Sign
  pub digits : List ℕ

-- a value in its parts: the digits before the point, those behind it where there is one, an
-- exponent, and letters
pub record Parts : Type 0 where
  pub whole : List ℕ
  pub fraction : Option (List ℕ)
  pub exponent : Option Exponent
  pub letters : List ℕ

-- how the digits behind a point are written: 46 is the point
abbrev pub fraction_text : Option (List ℕ) → List ℕ
fraction_text None = []
fraction_text (Some ds) = 46 ∷ ds

-- how a sign is written: 43 is `+`, 45 is `-`
abbrev pub sign_text : Sign → List ℕ
sign_text Unsigned = []
sign_text Plus = 43 ∷ []
sign_text Minus = 45 ∷ []

-- how an exponent is written
abbrev pub exponent_text : Option Exponent → List ℕ
exponent_text None = []
exponent_text (Some x) = x.mark ∷ (sign_text x.sign ++ x.digits)

-- the text of the parts
abbrev pub text_of : Parts → List ℕ
text_of p = p.whole ++ (fraction_text p.fraction ++ (exponent_text p.exponent ++ p.letters))

-- the digits behind the point
abbrev pub places_of : Option (List ℕ) → List ℕ
places_of None = []
places_of (Some ds) = ds

-- digits 0 to 9 alone, or nothing
abbrev pub AreDigits : List ℕ → Type 0
AreDigits ds = list_all is_ascii_digit ds ≡ true

-- an exponent has the letter e (101) in either case, and one digit or more
abbrev pub IsExponent : Option Exponent → Type 0
IsExponent None = Unit {0}
IsExponent (Some x) = (to_ascii_lowercase x.mark ≡ 101) × AreDigits x.digits × (0 < length x.digits)

-- what stands behind m: `il` makes no suffix, `eg` makes 10 ^ 6, and anything else leaves 10 ^ -3
abbrev pub milli_or_mega : List ℕ → Option ℕ
milli_or_mega [] = Some 12
milli_or_mega (a ∷ []) = Some 12
milli_or_mega (a ∷ b ∷ bs) =
    if a == 105 && b == 108 then None else if a == 101 && b == 103 then Some 21 else Some 12

-- the suffix that small letters begin with, as a power of ten of femtometres: f (102), p (112), n
-- (110), u (117), m (109), k (107), g (103), t (116), or no letter
abbrev pub suffix_of : List ℕ → Option ℕ
suffix_of [] = Some 15
suffix_of (b ∷ bs) =
    if b == 102 then Some 0 else if b == 112 then Some 3 else if b == 110 then Some 6 else if b
    == 117 then Some 9
    else if b == 109 then milli_or_mega bs
    else if b == 107 then Some 18 else if b == 103 then Some 24 else if b
    == 116 then Some 27 else None

-- the text is that of the parts, and each part is in order
pub record IsSpelled (text : List ℕ) (p : Parts) (suffix : ℕ) : Type 0 where
  pub spelled : text ≡ text_of p
  pub whole : AreDigits p.whole
  pub places : AreDigits (places_of p.fraction)
  pub some : 0 < length p.whole + length (places_of p.fraction)
  pub exponent : IsExponent p.exponent
  pub letters : list_all is_ascii_alphabetic p.letters ≡ true
  pub begins : suffix_of (map to_ascii_lowercase p.letters) ≡ Some suffix

-- whether an exponent divides
abbrev pub is_minus : Sign → Bool
is_minus Unsigned = false
is_minus Plus = false
is_minus Minus = true

-- the power of ten that an exponent multiplies by
abbrev pub tens_up : Option Exponent → ℕ
tens_up None = 0
tens_up (Some x) = if is_minus x.sign then 0 else digits_value 10 x.digits

-- the power of ten that it divides by
abbrev pub tens_down : Option Exponent → ℕ
tens_down None = 0
tens_down (Some x) = if is_minus x.sign then digits_value 10 x.digits else 0

-- what the parts are worth
abbrev pub number_in : Parts → ℕ → Number
number_in p suffix = record {
  mantissa = digits_value 10 (p.whole ++ places_of p.fraction);
  up = suffix + tens_up p.exponent;
  down = length (places_of p.fraction) + tens_down p.exponent;
}

-- the text is a value, worth this number
pub record IsNumber (text : List ℕ) (n : Number) : Type 0 where
  pub parts : Parts
  pub suffix : ℕ
  pub spelled : IsSpelled text parts suffix
  pub worth : n ≡ number_in parts suffix

-- the text is no value
abbrev pub IsNoNumber : List ℕ → Type 0
IsNoNumber text = (n : Number) → IsNumber text n → ⊥

-- the text is worth f femtometres
pub record IsValue (text : List ℕ) (f : ℕ) : Type 0 where
  pub number : Number
  pub read : IsNumber text number
  pub worth : IsWorth number f

-- the text is worth more than 10 ^ 18 femtometres
pub record IsTooLarge (text : List ℕ) : Type 0 where
  pub number : Number
  pub read : IsNumber text number
  pub above : IsAbove number

-- the text is worth no whole number of femtometres, and not above 10 ^ 18
pub record IsTooFine (text : List ℕ) : Type 0 where
  pub number : Number
  pub read : IsNumber text number
  pub small : IsAbove number → ⊥
  pub broken : (f : ℕ) → IsWorth number f → ⊥

-- the text is worth v square picometres
pub record IsArea (text : List ℕ) (v : ℕ) : Type 0 where
  pub number : Number
  pub read : IsNumber text number
  pub worth : IsWorth (in_area number) v

-- the text is worth more than 10 ^ 30 square picometres
pub record IsTooLargeArea (text : List ℕ) : Type 0 where
  pub number : Number
  pub read : IsNumber text number
  pub above : IsOver 30 (in_area number)

-- the text is worth no whole number of square picometres, and not above 10 ^ 30
pub record IsTooFineArea (text : List ℕ) : Type 0 where
  pub number : Number
  pub read : IsNumber text number
  pub small : IsOver 30 (in_area number) → ⊥
  pub broken : (v : ℕ) → IsWorth (in_area number) v → ⊥

-- a text is worth one whole number of femtometres at most
abbrev pub OneValueLaw : Type 0
OneValueLaw = (text : List ℕ) (f g : ℕ) → IsValue text f → IsValue text g → f ≡ g

-- and one of square picometres
abbrev pub OneAreaLaw : Type 0
OneAreaLaw = (text : List ℕ) (v w : ℕ) → IsArea text v → IsArea text w → v ≡ w
