-- How a name is written: as it stands, in quotes, or in quotes with each byte in octal digits.
use Rattle.std.specs.Prelude.{ℕ, ◌+◌, ◌/◌, ◌%◌, Bool, false, ◌==◌, ◌||◌, List, [], ◌∷◌, ◌++◌}
use Rattle.std.specs.Prelude.{codes, if◌then◌else◌}
use Rattle.std.specs.Int.{is_in_range}
use Rattle.std.specs.Char.{is_ascii_alphanumeric}
use Rattle.std.specs.List.{list_all, list_any}

-- whether a byte may stand in a word without quotes: a letter, a digit or one of these signs
abbrev pub is_plain : ℕ → Bool
is_plain b = is_ascii_alphanumeric b || list_any (λ sign. sign == b) (codes "_.$")

-- whether a byte is written as it is between quotes
abbrev pub is_printable : ℕ → Bool
is_printable b = is_in_range 0x20 0x7E b

-- a word without quotes has at least one byte
abbrev pub is_plain_word : List ℕ → Bool
is_plain_word [] = false
is_plain_word (b ∷ bytes) = list_all is_plain (b ∷ bytes)

-- a printable byte between quotes: quote and backslash stand behind a backslash
abbrev pub quoted : ℕ → List ℕ
quoted b = if (b == 0x27 || b == 0x5C) then 0x5C ∷ b ∷ [] else b ∷ []

-- any byte between quotes: a backslash and three octal digits
abbrev pub octal : ℕ → List ℕ
octal b = 0x5C ∷ (0x30 + b / 64) ∷ (0x30 + b / 8 % 8) ∷ (0x30 + b % 8) ∷ []

-- the bytes one after another, each by the same rule
abbrev pub spelled : (ℕ → List ℕ) → List ℕ → List ℕ
spelled spell [] = []
spelled spell (b ∷ bytes) = spell b ++ spelled spell bytes

abbrev pub in_quotes : List ℕ → List ℕ
in_quotes text = 0x27 ∷ (text ++ 0x27 ∷ [])

-- the first form that fits: all bytes plain; all printable; each byte in octal digits, since an
-- octal number ends at the first byte that is no digit
abbrev pub word : List ℕ → List ℕ
word name = if is_plain_word name then name
    else if list_all is_printable name then in_quotes (spelled quoted name)
    else in_quotes (spelled octal name)
