-- The value of an eight-byte real, by cross multiplication of whole numbers: the value without its
-- sign is `mantissa * 16 ^ (exponent - 78)`, which is `whole` over `16 ^ 78`.
use Rattle.std.specs.Prelude.{◌≡◌, ◌⊎◌, ℕ, ◌+◌, ◌-◌, ◌*◌, ◌^◌, ◌<◌, ◌≤◌, ◌%◌, ◌==◌, ◌&&◌, Bool, not}
use Rattle.std.specs.Prelude.{false, nat_le, nat_lt, List, drop, fold, slice_index, Option, Some}
use Rattle.std.specs.Prelude.{None}
use Rattle.std.specs.Prelude.{if◌then◌else◌}
use Rattle.std.specs.Option.{option_map}
use Rattle.fixed_num.specs.declared.real.Real8.{Real8}

-- the number that bytes are, the highest first
abbrev pub number_of_bytes : List ℕ → ℕ
number_of_bytes bytes = fold (λ (n b : ℕ). n * 256 + b) 0 bytes

-- an eight-byte real: a sign, a power of 16 in excess 64, a fraction of 56 bits
pub record Real : Type 0 where
  pub negative : Bool
  pub exponent : ℕ
  pub mantissa : ℕ

abbrev pub real_seen : Real8 → Real
real_seen r = record { negative = r.negative; exponent = r.exponent; mantissa = r.mantissa }

-- the real that eight bytes are
abbrev pub real_of : List ℕ → Real
real_of bytes = record {
  negative = nat_le 128 (slice_index bytes 0);
  exponent = slice_index bytes 0 % 128;
  mantissa = number_of_bytes (drop 1 bytes);
}

-- 16 ^ 78 times the value without its sign
abbrev pub whole : Real → ℕ
whole r = r.mantissa * 16 ^ r.exponent

-- the value is 1
abbrev pub is_one : Real → Bool
is_one r = not r.negative && whole r == 16 ^ 78

-- the value without its sign is v
abbrev pub IsAngle : Real → ℕ → Type 0
IsAngle r v = whole r ≡ v * 16 ^ 78

-- the value without its sign is 90 times that number
abbrev pub is_turns : Real → ℕ → Bool
is_turns r turns = whole r == 90 * turns * 16 ^ 78

abbrev pub turns_of : Real → Option ℕ
turns_of r =
    if is_turns r 0 then Some 0
    else if is_turns r 1 then Some 1
    else if is_turns r 2 then Some 2
    else if is_turns r 3 then Some 3
    else if is_turns r 4 then Some 4
    else None

-- the quarters of a turn, 0 to 3, where the value is a multiple of 90 from -360 to 360
abbrev pub quarter_of : Real → Option ℕ
quarter_of r = option_map (λ turns. (if r.negative then 4 - turns else turns) % 4) (turns_of r)

-- k is the whole number nearest to 10 ^ 12 times w over 16 ^ 78, halves upwards:
-- 2 * k - 1 ≤ 2 * 10 ^ 12 * w / 16 ^ 78 < 2 * k + 1
pub record IsNearest (w k : ℕ) : Type 0 where
  pub low : (2 * k - 1) * 16 ^ 78 ≤ 2 * w * 10 ^ 12
  pub high : 2 * w * 10 ^ 12 < (2 * k + 1) * 16 ^ 78

-- the value times 10 ^ 12 is nearest to k, one of 1 to 1,000,000
pub record IsPicometres (r : Real) (k : ℕ) : Type 0 where
  pub sign : r.negative ≡ false
  pub least : 1 ≤ k
  pub most : k ≤ 1000000
  pub nearest : IsNearest (whole r) k

-- there is such a number
abbrev pub is_unit : Real → Bool
is_unit r = not r.negative && nat_le (16 ^ 78) (2 * 10 ^ 12 * whole r)
    && nat_lt (2 * 10 ^ 12 * whole r) (2000001 * 16 ^ 78)

-- the value without its sign is the mantissa over d
pub record IsDivisor (r : Real) (d : ℕ) : Type 0 where
  pub divides : d * 16 ^ r.exponent ≡ 16 ^ 78
  pub some : 0 < d
  pub fits : d ≤ 2 ^ 96

-- the value without its sign is below 16 ^ -11, or a multiple of 16
abbrev pub IsFarFromOne : Real → Type 0
IsFarFromOne r = (whole r < 16 ^ 67) ⊎ ((y : ℕ) × (whole r ≡ 16 * y * 16 ^ 78))
