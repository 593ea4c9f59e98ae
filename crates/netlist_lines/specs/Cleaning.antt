-- A line of a netlist as netlisters write it, made a line of the profile: the comment at its end is
-- left out, a backslash stands for itself, and what stands in quotes or braces is one word.
use Rattle.std.specs.Prelude.{◌≡◌, ℕ, Bool, true, false, ◌==◌, ◌&&◌, ◌||◌, List, [], ◌∷◌, ◌++◌}
use Rattle.std.specs.Prelude.{Result, Ok, Err, if◌then◌else◌}
use Rattle.std.specs.Char.{is_ascii_alphanumeric}
use Rattle.spice_cards.specs.Tokens.{is_blank}
use Rattle.netlist_lines.specs.declared.cleaning.At.{At}
use Rattle.netlist_lines.specs.declared.cleaning.At.TheVariants.{Before, Value, Within, Escaped, Quoted}
use Rattle.netlist_lines.specs.declared.cleaning.Cleaned.{Cleaned}
use Rattle.netlist_lines.specs.declared.cleaning.Cleaned.TheVariants.{Whole, Cut, Refused}
use Rattle.netlist_lines.specs.declared.cleaning.LineFault.{LineFault}
use Rattle.netlist_lines.specs.declared.cleaning.LineFault.TheVariants.{Open, Split}

-- ' or "
abbrev pub is_quote : ℕ → Bool
is_quote b = b == 0x27 || b == 0x22

-- a byte of an escaped name: a backslash and `=` stand behind a backslash
abbrev pub spelled : ℕ → List ℕ
spelled b = if (b == 0x5C || b == 0x3D) then 0x5C ∷ b ∷ [] else b ∷ []

-- what a byte becomes, and where the reading stands behind it
pub record Step : Type 0 where
  pub text : List ℕ
  pub at : At

-- a blank and `=` end a word; from a backslash on to its end the word is an escaped name
abbrev pub in_word : ℕ → Step
in_word b =
    if is_blank b then record { text = b ∷ []; at = Before }
    else if b == 0x3D then record { text = b ∷ []; at = Value }
    else if b == 0x5C then record { text = spelled b; at = Escaped }
    else record { text = b ∷ []; at = Within }

-- before a word, a brace begins a text, up to the brace that closes
abbrev pub before_word : ℕ → Step
before_word b = if b == 0x7B then record { text = b ∷ []; at = Quoted 0x7D } else in_word b

-- a quote does, too, behind `=`; blanks in such a text are left out
abbrev pub step : At → ℕ → Step
step Before b = before_word b
step Within b = in_word b
step Value b =
    if is_blank b then record { text = b ∷ []; at = Value }
    else if is_quote b then record { text = b ∷ []; at = Quoted b }
    else before_word b
step Escaped b =
    if is_blank b then record { text = b ∷ []; at = Before }
    else record { text = spelled b; at = Escaped }
step (Quoted q) b =
    if is_blank b then record { text = []; at = Quoted q }
    else if b == q then record { text = b ∷ []; at = Within }
    else record { text = spelled b; at = Quoted q }

-- a blank or the line's end
abbrev pub ends_word : List ℕ → Bool
ends_word [] = true
ends_word (b ∷ bytes) = is_blank b

-- the first byte is a blank
abbrev pub begins_blank : List ℕ → Bool
begins_blank [] = false
begins_blank (b ∷ bytes) = is_blank b

-- before a word, `;` begins a comment, and `$` where it stands alone
abbrev pub begins_comment : At → ℕ → List ℕ → Bool
begins_comment Before b behind = b == 0x3B || (b == 0x24 && ends_word behind)
begins_comment Value b behind = b == 0x3B || (b == 0x24 && ends_word behind)
begins_comment at b behind = false

-- a byte of names and numbers
abbrev pub is_word_byte : ℕ → Bool
is_word_byte b = is_ascii_alphanumeric b || (b == 0x5F || b == 0x2E)

-- behind blanks, one stands next
abbrev pub word_next : List ℕ → Bool
word_next [] = false
word_next (b ∷ bytes) = if is_blank b then word_next bytes else is_word_byte b

-- in quotes or braces, a blank stands between this byte and the next word: it would be lost
abbrev pub ends_split : At → ℕ → List ℕ → Bool
ends_split (Quoted q) b behind = is_word_byte b && begins_blank behind && word_next behind
ends_split at b behind = false

-- what was made of a line so far becomes this with its rest; refused where quotes or braces don't
-- end, or two words stand in them
abbrev pub cleaned : List ℕ → At → List ℕ → Result (List ℕ) LineFault
cleaned made (Quoted q) [] = Err Open
cleaned made at [] = Ok made
cleaned made at (b ∷ bytes) =
    if begins_comment at b bytes then Ok made
    else if ends_split at b bytes then Err Split
    else cleaned (made ++ (step at b).text) (step at b).at bytes

-- where reading stands so, a comment begins in the rest of a line
abbrev pub is_cut : At → List ℕ → Bool
is_cut at [] = false
is_cut at (b ∷ bytes) = if begins_comment at b bytes then true else is_cut (step at b).at bytes

-- a text with what a line becomes behind it: blanks before the line's first word are left out, and
-- all of a line whose first word begins with `*`
abbrev pub with_line : List ℕ → List ℕ → Result (List ℕ) LineFault
with_line text [] = Ok text
with_line text (b ∷ bytes) =
    if is_blank b then with_line text bytes
    else if b == 0x2A then Ok text
    else if b == 0x2B then cleaned (text ++ b ∷ []) Before bytes
    else cleaned text Before (b ∷ bytes)

-- a comment ends the line
abbrev pub has_comment : List ℕ → Bool
has_comment [] = false
has_comment (b ∷ bytes) =
    if is_blank b then has_comment bytes
    else if b == 0x2A then false
    else if b == 0x2B then is_cut Before bytes
    else is_cut Before (b ∷ bytes)

-- what came of a line, which makes this of the text, and in which a comment is cut or not
abbrev pub Comes : Result (List ℕ) LineFault → Bool → List ℕ → Cleaned → Type 0
Comes made cut text (Refused fault) = made ≡ Err fault
Comes made cut text Whole = (made ≡ Ok text) × (cut ≡ false)
Comes made cut text Cut = (made ≡ Ok text) × (cut ≡ true)
