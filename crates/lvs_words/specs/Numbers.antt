-- Numbers among the words.
use Rattle.std.specs.Prelude.{ℕ, nat_le, ◌&&◌, Bool, List, length, Option, Some, None}
use Rattle.std.specs.Prelude.{if◌then◌else◌}
use Rattle.std.specs.Str.{all_ascii_digits}
use Rattle.std.specs.Str.Parse.{digits_value}

-- one to twenty decimal digits, and nothing else
abbrev pub is_number : List ℕ → Bool
is_number word = nat_le 1 (length word) && nat_le (length word) 20 && all_ascii_digits word

-- this number, where it isn't below low nor above high
abbrev pub within : (low high n : ℕ) → Option ℕ
within low high n = if nat_le low n && nat_le n high then Some n else None

-- the number that the word is, where it lies there
abbrev pub number_in : (low high : ℕ) (word : List ℕ) → Option ℕ
number_in low high word = if is_number word then within low high (digits_value 10 word) else None
