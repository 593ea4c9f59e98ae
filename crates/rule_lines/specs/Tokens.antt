-- The tokens of a line: what stands at its front and how many bytes that takes, then the tokens
-- behind.
use Rattle.std.specs.Prelude.{ℕ, zero, suc, ◌+◌, ◌-◌, Bool, ◌==◌, ◌&&◌, ◌||◌, nat_lt, nat_le, List}
use Rattle.std.specs.Prelude.{[], ◌∷◌, ◌++◌, length, take, drop, slice_index, if◌then◌else◌}
use Rattle.std.specs.List.{prefix_len, position_or_len}

-- a word is a run of letters, digits and _; a text is what two equal quotes enclose; bad is what
-- begins no token, with the rest of the line
pub data Token : Type 0 where
  Word : (bytes : List ℕ) → Token
  Text : (bytes : List ℕ) → Token
  Mark : (byte : ℕ) → Token
  Arrow : Token
  Bad : Token

abbrev pub is_digit : ℕ → Bool
is_digit b = nat_le 0x30 b && nat_le b 0x39

-- a small letter or _
abbrev pub is_small : ℕ → Bool
is_small b = (nat_le 0x61 b && nat_le b 0x7A) || b == 0x5F

abbrev pub is_capital : ℕ → Bool
is_capital b = nat_le 0x41 b && nat_le b 0x5A

abbrev pub is_word : ℕ → Bool
is_word b = is_digit b || is_small b || is_capital b

-- space or tab
abbrev pub is_blank : ℕ → Bool
is_blank b = b == 0x20 || b == 0x09

-- " or '
abbrev pub is_quote : ℕ → Bool
is_quote b = b == 0x22 || b == 0x27

-- & ( ) , - . = ^ { | }
abbrev pub is_mark : ℕ → Bool
is_mark b = b == 0x26 || b == 0x28 || b == 0x29 || b == 0x2C || b == 0x2D || b == 0x2E || b == 0x3D
    || b == 0x5E || b == 0x7B || b == 0x7C || b == 0x7D

-- what stands at the front of some bytes, and how many of them it takes
pub record Piece : Type 0 where
  pub tokens : List Token
  pub width : ℕ

abbrev pub passed : ℕ → Piece
passed n = record { tokens = []; width = n }

abbrev pub one : Token → ℕ → Piece
one t n = record { tokens = t ∷ []; width = n }

-- the text behind a quote, where the next such quote stands at n
abbrev pub text_until : ℕ → List ℕ → Piece
text_until n behind = if nat_lt n (length behind) then one (Text (take n behind)) (n + 2) else one
    Bad (length behind + 1)

-- blanks and the comment are passed over
abbrev pub piece_at : ℕ → List ℕ → Piece
piece_at c bytes =
    if is_blank c then passed 1
    else if c == 0x23 then passed (length bytes)
    else if is_word c then one (Word (take (prefix_len is_word bytes) bytes))
    (prefix_len is_word bytes)
    else if is_quote c then text_until (position_or_len (λ b. b == c) (drop 1 bytes)) (drop 1 bytes)
    else if c == 0x3D && slice_index bytes 1 == 0x3E then one Arrow 2
    else if is_mark c then one (Mark c) 1
    else one Bad (length bytes)

abbrev pub piece : List ℕ → Piece
piece bytes = piece_at (slice_index bytes 0) bytes

-- the tokens behind so many bytes
abbrev pub tokens_behind : ℕ → List ℕ → List Token
tokens_behind n [] = []
tokens_behind zero (c ∷ cs) =
    (piece (c ∷ cs)).tokens ++ tokens_behind ((piece (c ∷ cs)).width - 1) cs
tokens_behind (suc n) (c ∷ cs) = tokens_behind n cs

abbrev pub tokens_of : List ℕ → List Token
tokens_of line = tokens_behind 0 line
