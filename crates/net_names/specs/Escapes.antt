-- Names as SPICE text spells them: bytes that stand for themselves, and escapes that begin with a
-- backslash.
use Rattle.std.specs.Prelude.{ℕ, zero, suc, ◌+◌, ◌-◌, ◌*◌, ◌/◌, ◌%◌, Bool, not, nat_lt, ◌==◌, ◌||◌}
use Rattle.std.specs.Prelude.{List, [], ◌∷◌, ◌++◌, slice_index, Option, Some, None, if◌then◌else◌}
use Rattle.std.specs.Prelude.{codes}
use Rattle.std.specs.Int.{is_in_range}
use Rattle.std.specs.Char.{is_ascii_alphanumeric, is_ascii_graphic}
use Rattle.std.specs.List.{list_any}

-- whether a byte is written as it is: a letter, a digit or one of these signs
abbrev pub is_plain : ℕ → Bool
is_plain b = is_ascii_alphanumeric b || list_any (λ sign. sign == b) (codes "_./[]<>#:!-")

-- the hexadecimal digit, in capitals, of a number below 16
abbrev pub hex_digit : ℕ → ℕ
hex_digit n = if nat_lt n 10 then 0x30 + n else 0x37 + n

-- how a byte is written: as it is, behind a backslash if it is printable, or else as \x and two
-- hexadecimal digits
abbrev pub spelling : ℕ → List ℕ
spelling b =
    if is_plain b then b ∷ []
    else if is_ascii_graphic b then 0x5C ∷ b ∷ []
    else 0x5C ∷ 0x78 ∷ hex_digit (b / 16) ∷ hex_digit (b % 16) ∷ []

-- a name with its escapes: how its bytes are written, one after another
abbrev pub escaped : List ℕ → List ℕ
escaped [] = []
escaped (b ∷ bytes) = spelling b ++ escaped bytes

-- the number that a hexadecimal digit of either case stands for
abbrev pub hex_value : ℕ → Option ℕ
hex_value b =
    if is_in_range 0x30 0x39 b then Some (b - 0x30)
    else if is_in_range 0x41 0x46 b then Some (b - 0x37)
    else if is_in_range 0x61 0x66 b then Some (b - 0x57)
    else None

-- the byte of two hexadecimal digits
abbrev pub hex_byte : Option ℕ → Option ℕ → Option ℕ
hex_byte (Some high) (Some low) = Some (high * 16 + low)
hex_byte _ _ = None

-- what stands at the front of a text: the byte that is spelled there, none for a bad escape, and
-- how many bytes that takes
pub record Front : Type 0 where
  pub byte : Option ℕ
  pub width : ℕ

-- the front of a text whose first bytes are b and c: a byte but the backslash is itself; \x and \X
-- take two hexadecimal digits of either case; a backslash before another printable byte is that
-- byte
abbrev pub front_at : ℕ → ℕ → List ℕ → Front
front_at b c text =
    if not (b == 0x5C) then record { byte = Some b; width = 1 }
    else if (c == 0x78 || c == 0x58) then record {
      byte = hex_byte (hex_value (slice_index text 2)) (hex_value (slice_index text 3));
      width =
          4;
    }
    else if is_ascii_graphic c then record { byte = Some c; width = 2 }
    else record { byte = None; width = 1 }

-- the front of a text; past its end there are zeros, which no escape has
abbrev pub front : List ℕ → Front
front text = front_at (slice_index text 0) (slice_index text 1) text

-- a byte before what is spelled behind it
abbrev pub onto : Option ℕ → Option (List ℕ) → Option (List ℕ)
onto (Some b) (Some bytes) = Some (b ∷ bytes)
onto _ _ = None

-- what a text spells behind its first n bytes, none where an escape is bad
abbrev pub unescaped_behind : ℕ → List ℕ → Option (List ℕ)
unescaped_behind n [] = Some []
unescaped_behind zero (b ∷ text) =
    onto (front (b ∷ text)).byte (unescaped_behind ((front (b ∷ text)).width - 1) text)
unescaped_behind (suc n) (b ∷ text) = unescaped_behind n text

-- the name that a text spells, none where an escape is bad
abbrev pub unescaped : List ℕ → Option (List ℕ)
unescaped text = unescaped_behind 0 text
