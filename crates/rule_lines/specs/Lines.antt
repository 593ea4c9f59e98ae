-- The lines of a text: an LF or a CR LF ends one.
use Rattle.std.specs.Prelude.{ℕ, ◌-◌, Bool, false, ◌==◌, ◌&&◌, ◌||◌, nat_le, List, [], ◌∷◌, length}
use Rattle.std.specs.Prelude.{take, slice_index, if◌then◌else◌}

-- a byte that stands in no text
abbrev pub is_no_text : ℕ → Bool
is_no_text b = nat_le b 8 || b == 11 || b == 12 || (nat_le 14 b && nat_le b 31) || b == 127

abbrev pub begins : ℕ → List ℕ → Bool
begins b [] = false
begins b (c ∷ cs) = c == b

abbrev pub onto_first : ℕ → List (List ℕ) → List (List ℕ)
onto_first c [] = (c ∷ []) ∷ []
onto_first c (line ∷ lines) = (c ∷ line) ∷ lines

-- what follows the last end is a line where it isn't empty
abbrev pub lines_of : List ℕ → List (List ℕ)
lines_of [] = []
lines_of (c ∷ cs) =
    if c == 0x0A then [] ∷ lines_of cs
    else if c == 0x0D && begins 0x0A cs then lines_of cs
    else onto_first c (lines_of cs)

-- without a CR at its end
abbrev pub chopped : List ℕ → List ℕ
chopped line =
    if slice_index line (length line - 1) == 0x0D then take (length line - 1) line else line
