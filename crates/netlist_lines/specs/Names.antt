-- What the profile reads of a cleaned line.
use Rattle.std.specs.Prelude.{◌≡◌, ℕ, Bool, false, ◌==◌, ◌||◌, List, [], ◌∷◌, ◌++◌, Some, Ok}
use Rattle.net_names.specs.Escapes.{unescaped}
use Rattle.spice_cards.specs.Tokens.{is_blank}
use Rattle.netlist_lines.specs.Cleaning.{cleaned, spelled, is_quote}
use Rattle.netlist_lines.specs.declared.cleaning.At.TheVariants.{Before}

-- the bytes of an escaped name, one after another
abbrev pub spelled_all : List ℕ → List ℕ
spelled_all [] = []
spelled_all (b ∷ bytes) = spelled b ++ spelled_all bytes

abbrev pub has_blank : List ℕ → Bool
has_blank [] = false
has_blank (b ∷ bytes) = is_blank b || has_blank bytes

-- what stands behind a backslash, up to a blank, is one word, and the name that it spells is the
-- backslash and what stood behind it
pub record IsKeptName (made word : List ℕ) : Type 0 where
  pub text : cleaned made Before (0x5C ∷ word) ≡ Ok (made ++ spelled_all (0x5C ∷ word))
  pub read : unescaped (spelled_all (0x5C ∷ word)) ≡ Some (0x5C ∷ word)

abbrev pub EscapedNameLaw : Type 0
EscapedNameLaw = (made word : List ℕ) → has_blank word ≡ false → IsKeptName made word

-- a backslash, `;`, `$`, quotes and a brace
abbrev pub is_special : ℕ → Bool
is_special b = b == 0x5C || (b == 0x3B || (b == 0x24 || (b == 0x7B || is_quote b)))

abbrev pub has_special : List ℕ → Bool
has_special [] = false
has_special (b ∷ bytes) = is_special b || has_special bytes

-- a line without them stays as it is
abbrev pub PlainLineLaw : Type 0
PlainLineLaw = (made line : List ℕ) → has_special line ≡ false
    → cleaned made Before line ≡ Ok (made ++ line)
