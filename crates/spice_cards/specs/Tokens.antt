-- The tokens of a line.
use Rattle.std.specs.Prelude.{ℕ, zero, suc, ◌+◌, ◌-◌, Bool, false, ◌==◌, ◌&&◌, ◌||◌, not, List, []}
use Rattle.std.specs.Prelude.{◌∷◌, ◌++◌, take, slice_index, if◌then◌else◌}

-- a token's bytes as they stand, or an `=` that isn't escaped
pub data Token : Type 0 where
  Word : (bytes : List ℕ) → Token
  Equals : Token

abbrev pub is_blank : ℕ → Bool
is_blank b = b == 0x20 || b == 0x09

-- a byte goes on with a word, where it may stand behind a backslash that begins an escape
abbrev pub goes_on : Bool → ℕ → Bool
goes_on escaped b = not (is_blank b) && (escaped || not (b == 0x3D))

-- how many bytes go on with a word
abbrev pub run : Bool → List ℕ → ℕ
run escaped [] = 0
run escaped (b ∷ bytes) = if goes_on escaped b then run (not escaped && b == 0x5C) bytes + 1 else 0

-- the length of the word at the front
abbrev pub word_len : List ℕ → ℕ
word_len bytes = run false bytes

-- what stands at the front, and how many bytes it takes
pub record Piece : Type 0 where
  pub tokens : List Token
  pub width : ℕ

abbrev pub piece : List ℕ → Piece
piece bytes =
    if is_blank (slice_index bytes 0) then record { tokens = []; width = 1 }
    else if slice_index bytes 0 == 0x3D then record { tokens = Equals ∷ []; width = 1 }
    else record { tokens = Word (take (word_len bytes) bytes) ∷ []; width = word_len bytes }

-- the tokens behind the first n bytes
abbrev pub tokens_behind : ℕ → List ℕ → List Token
tokens_behind n [] = []
tokens_behind zero (b ∷ bytes) =
    (piece (b ∷ bytes)).tokens ++ tokens_behind ((piece (b ∷ bytes)).width - 1) bytes
tokens_behind (suc n) (b ∷ bytes) = tokens_behind n bytes

abbrev pub tokens_of : List ℕ → List Token
tokens_of bytes = tokens_behind 0 bytes
