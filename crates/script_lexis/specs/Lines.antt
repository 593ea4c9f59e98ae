-- The lines of a script: which ends of lines end nothing, where a byte stands, and which comments
-- bring another file in.
use Rattle.std.specs.Prelude.{ℕ, ◌+◌, Bool, true, false, ◌==◌, ◌&&◌, ◌||◌, not, List, [], ◌∷◌}
use Rattle.std.specs.Prelude.{take, drop, codes, Option, Some, None, if◌then◌else◌}
use Rattle.std.specs.List.{prefix_len}
use Rattle.std.specs.Str.{bytes_eq}
use Rattle.script_lexis.specs.Bytes.{is_word, is_blank, first}
use Rattle.script_lexis.specs.Tokens.{Token, Placed, Name, Label, Sign, End}
use Rattle.script_lexis.specs.declared.signs.Sign.{Sign as AnySign}
use Rattle.script_lexis.specs.declared.signs.Sign.TheVariants as sign

abbrev pub is_joining_word : List ℕ → Bool
is_joining_word w = bytes_eq w (codes "and") || bytes_eq w (codes "or") || bytes_eq w (codes "not")

-- ) ] }
abbrev pub is_closing : AnySign → Bool
is_closing sign.Close = true
is_closing sign.CloseSquare = true
is_closing sign.CloseBrace = true
is_closing s = false

abbrev pub is_semicolon : AnySign → Bool
is_semicolon sign.Semicolon = true
is_semicolon s = false

-- behind these a line goes on: a label, `and`, `or`, `not`, and each sign but `;` and what closes
abbrev pub goes_on : Token → Bool
goes_on (Name w) = is_joining_word w
goes_on (Label w) = true
goes_on (Sign s) = not (is_closing s || is_semicolon s)
goes_on t = false

abbrev pub is_point : AnySign → Bool
is_point sign.Point = true
is_point s = false

-- before these the line before goes on: `.` and what closes
abbrev pub is_leading : Token → Bool
is_leading (Sign s) = is_point s || is_closing s
is_leading t = false

abbrev pub is_end : Token → Bool
is_end End = true
is_end t = false

-- the first token that is no line's end is one before which a line goes on
abbrev pub leads : List Placed → Bool
leads [] = false
leads (p ∷ ps) = if is_end p.token then leads ps else is_leading p.token

-- without the ends of lines that end nothing: those behind and before what goes on, and those of
-- empty lines; `is_open` tells whether an end ends nothing here
abbrev pub joined : Bool → List Placed → List Placed
joined is_open [] = []
joined is_open (p ∷ ps) =
    if not (is_end p.token) then p ∷ joined (goes_on p.token) ps
    else if is_open || leads ps then joined true ps
    else p ∷ joined true ps

abbrev pub joined_of : List Placed → List Placed
joined_of ps = joined true ps

-- a line and a column, each from 1
pub record Position : Type 0 where
  pub line : ℕ
  pub column : ℕ

-- where the next byte stands behind these
abbrev pub position_behind : ℕ → ℕ → List ℕ → Position
position_behind line column [] = record { line = line; column = column }
position_behind line column (b ∷ bytes) =
    if b == 0x0A then position_behind (line + 1) 1 bytes
    else position_behind line (column + 1) bytes

abbrev pub position_of : List ℕ → ℕ → Position
position_of bytes at = position_behind 1 1 (take at bytes)

abbrev pub behind_blanks : List ℕ → List ℕ
behind_blanks bytes = drop (prefix_len is_blank bytes) bytes

-- the word `%include`, and no longer one
abbrev pub is_include : List ℕ → Bool
is_include bytes =
    bytes_eq (take 8 bytes) (codes "%include") && not (is_word (first (drop 8 bytes)))

-- a comment that begins with it
abbrev pub is_including : List ℕ → Bool
is_including line = first line == 0x23 && is_include (behind_blanks (drop 1 line))

-- where the first such comment begins that stands alone on its line; `fresh` tells whether a line
-- begins here
abbrev pub including_from : ℕ → Bool → List ℕ → Option ℕ
including_from at fresh [] = None
including_from at fresh (b ∷ bytes) =
    if fresh && is_including (behind_blanks (b ∷ bytes))
    then Some (at + prefix_len is_blank (b ∷ bytes))
    else including_from (at + 1) (b == 0x0A) bytes

abbrev pub first_including : List ℕ → Option ℕ
first_including bytes = including_from 0 true bytes
