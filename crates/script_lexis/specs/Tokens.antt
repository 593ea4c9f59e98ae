-- The tokens of a script: what stands at its front and how many bytes that takes, then the tokens
-- behind, each with its offset.
use Rattle.std.specs.Prelude.{ℕ, zero, suc, ◌+◌, ◌-◌, Bool, true, false, ◌==◌, ◌&&◌, ◌||◌, not}
use Rattle.std.specs.Prelude.{List, [], ◌∷◌, ◌++◌, length, take, drop, map, Option, Some, None}
use Rattle.std.specs.Prelude.{if◌then◌else◌}
use Rattle.std.specs.List.{prefix_len, position_or_len, list_any}
use Rattle.script_lexis.specs.Bytes.{is_digit, is_letter, is_word, is_figure, is_blank, is_quote}
use Rattle.script_lexis.specs.Bytes.{is_sigil, first, second, third}
use Rattle.script_lexis.specs.Signs.{is_beyond, pair_sign, single_sign}
use Rattle.script_lexis.specs.Texts.{text_len}
use Rattle.script_lexis.specs.declared.signs.Sign.{Sign as AnySign}
use Rattle.script_lexis.specs.declared.signs.Sign.TheVariants as sign
use Rattle.script_lexis.specs.declared.widths.Inside.TheVariants.{Plain}

pub data Token : Type 0 where
  Name : (bytes : List ℕ) → Token
  Label : (bytes : List ℕ) → Token
  Symbol : (bytes : List ℕ) → Token
  Variable : (bytes : List ℕ) → Token
  Number : (bytes : List ℕ) → Token
  Text : (bytes : List ℕ) → Token
  Mixed : (bytes : List ℕ) → Token
  Sign : (sign : AnySign) → Token
  End : Token
  Bad : Token

-- a token, the offset of its first byte, and whether blanks or a line's end stand right before it
pub record Placed : Type 0 where
  pub at : ℕ
  pub spaced : Bool
  pub token : Token

-- what stands at the front of some bytes, and how many of them it takes
pub record Piece : Type 0 where
  pub tokens : List Token
  pub width : ℕ

abbrev pub passed : ℕ → Piece
passed n = record { tokens = []; width = n }

abbrev pub one : Token → ℕ → Piece
one t n = record { tokens = t ∷ []; width = n }

abbrev pub bad : List ℕ → Piece
bad bytes = one Bad (length bytes)

-- a `?` or `!` that no `=` follows belongs to the name before it
abbrev pub mark_len : List ℕ → ℕ
mark_len behind =
    if (first behind == 0x3F || first behind == 0x21) && not (second behind == 0x3D) then 1 else 0

-- one `:`
abbrev pub is_colon : List ℕ → Bool
is_colon behind = first behind == 0x3A && not (second behind == 0x3A)

-- a name of n letters and digits, or one that a `:` makes a label
abbrev pub name_piece : ℕ → List ℕ → Piece
name_piece n bytes =
    if is_colon (drop n bytes) then one (Label (take n bytes)) (n + 1)
    else one (Name (take (n + mark_len (drop n bytes)) bytes)) (n + mark_len (drop n bytes))

-- a point and digits behind digits
abbrev pub fraction_len : List ℕ → ℕ
fraction_len behind =
    if first behind == 0x2E && is_digit (second behind)
    then 1 + prefix_len is_figure (drop 1 behind)
    else 0

-- e or E, perhaps a sign, and digits
abbrev pub power_len : List ℕ → ℕ
power_len behind =
    if not (first behind == 0x65 || first behind == 0x45) then 0
    else if is_digit (second behind) then 1 + prefix_len is_figure (drop 1 behind)
    else if (second behind == 0x2B || second behind == 0x2D) && is_digit (third behind)
    then 2 + prefix_len is_figure (drop 2 behind)
    else 0

-- a number, which no letter follows
abbrev pub number_of : ℕ → List ℕ → Piece
number_of n bytes =
    if is_letter (first (drop n bytes)) then bad bytes else one (Number (take n bytes)) n

abbrev pub with_power : ℕ → List ℕ → Piece
with_power n bytes = number_of (n + power_len (drop n bytes)) bytes

abbrev pub with_fraction : ℕ → List ℕ → Piece
with_fraction n bytes = with_power (n + fraction_len (drop n bytes)) bytes

-- a byte that makes a text mixed
abbrev pub is_mixing : ℕ → Bool
is_mixing b = b == 0x5C || b == 0x23

-- a text of n bytes behind its first quote, its last one among them; or a label
abbrev pub text_of : ℕ → List ℕ → Piece
text_of n bytes =
    if list_any is_mixing (take (n - 1) (drop 1 bytes))
    then one (Mixed (take (n + 1) bytes)) (n + 1)
    else if is_colon (drop (n + 1) bytes) then one (Label (take (n - 1) (drop 1 bytes))) (n + 2)
    else one (Text (take (n - 1) (drop 1 bytes))) (n + 1)

abbrev pub text_piece : Option ℕ → List ℕ → Piece
text_piece None bytes = bad bytes
text_piece (Some n) bytes = text_of n bytes

abbrev pub variable_piece : ℕ → List ℕ → Piece
variable_piece n bytes =
    if is_letter (second bytes) then one (Variable (take (n + 1) bytes)) (n + 1) else bad bytes

-- a symbol with n letters and digits behind its `:`
abbrev pub symbol_piece : ℕ → List ℕ → Piece
symbol_piece n bytes = one (Symbol (take n (drop 1 bytes))) (n + 1)

-- a backslash takes a line's end away
abbrev pub joining_piece : List ℕ → Piece
joining_piece bytes =
    if second bytes == 0x0A then passed 2
    else if second bytes == 0x0D && third bytes == 0x0A then passed 3
    else bad bytes

-- `||=` alone has three bytes
abbrev pub is_either_assign : List ℕ → Bool
is_either_assign bytes = first bytes == 0x7C && second bytes == 0x7C && third bytes == 0x3D

abbrev pub single_piece : Option AnySign → List ℕ → Piece
single_piece None bytes = bad bytes
single_piece (Some s) bytes = one (Sign s) 1

abbrev pub pair_piece : Option AnySign → List ℕ → Piece
pair_piece None bytes = single_piece (single_sign (first bytes)) bytes
pair_piece (Some s) bytes = one (Sign s) 2

abbrev pub sign_piece : List ℕ → Piece
sign_piece bytes =
    if is_beyond (first bytes) (second bytes) then bad bytes
    else if is_either_assign bytes then one (Sign sign.EitherAssign) 3
    else pair_piece (pair_sign (first bytes) (second bytes)) bytes

-- a symbol or a sign
abbrev pub mark_piece : List ℕ → Piece
mark_piece bytes =
    if first bytes == 0x3A && is_letter (second bytes)
    then symbol_piece (prefix_len is_word (drop 1 bytes)) bytes
    else sign_piece bytes

abbrev pub piece_at : ℕ → List ℕ → Piece
piece_at c bytes =
    if is_blank c then passed 1
    else if c == 0x0A then one End 1
    else if c == 0x0D && second bytes == 0x0A then one End 2
    else if c == 0x5C then joining_piece bytes
    else if c == 0x23 then passed (position_or_len (λ b. b == 0x0A) bytes)
    else if is_letter c then name_piece (prefix_len is_word bytes) bytes
    else if is_digit c then with_fraction (prefix_len is_figure bytes) bytes
    else if is_quote c then text_piece (text_len c Plain 0 (drop 1 bytes)) bytes
    else if is_sigil c then variable_piece (prefix_len is_word (drop 1 bytes)) bytes
    else mark_piece bytes

abbrev pub piece : List ℕ → Piece
piece bytes = piece_at (first bytes) bytes

abbrev pub with_place : ℕ → Bool → List Token → List Placed
with_place at spaced ts = map (λ t. record { at = at; spaced = spaced; token = t }) ts

-- what is passed over, and a line's end, space what follows
abbrev pub is_spacing : List Token → Bool
is_spacing [] = true
is_spacing (End ∷ ts) = true
is_spacing (t ∷ ts) = false

-- the tokens behind so many bytes, of bytes that begin at this offset
abbrev pub placed_behind : ℕ → Bool → ℕ → List ℕ → List Placed
placed_behind at spaced n [] = []
placed_behind at spaced zero (c ∷ cs) =
    with_place at spaced (piece (c ∷ cs)).tokens
    ++ placed_behind (at + 1) (is_spacing (piece (c ∷ cs)).tokens) ((piece (c ∷ cs)).width - 1) cs
placed_behind at spaced (suc n) (c ∷ cs) = placed_behind (at + 1) spaced n cs

abbrev pub placed_from : ℕ → Bool → List ℕ → List Placed
placed_from at spaced bytes = placed_behind at spaced 0 bytes

abbrev pub placed_of : List ℕ → List Placed
placed_of bytes = placed_from 0 true bytes
