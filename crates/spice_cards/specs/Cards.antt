-- The cards of a netlist text.
use Rattle.std.specs.Prelude.{◌≡◌, ℕ, ◌+◌, Bool, true, false, ◌==◌, ◌||◌, ◌&&◌, not, List, [], ◌∷◌}
use Rattle.std.specs.Prelude.{◌++◌, drop, slice_index, Option, Some, None, if◌then◌else◌}
use Rattle.std.specs.List.{list_all}
use Rattle.rule_lines.specs.Lines.{lines_of}
use Rattle.spice_cards.specs.Tokens.{is_blank, Token, tokens_of}

-- a card: the number of its first line, and the tokens of its lines
pub record Card : Type 0 where
  pub line : ℕ
  pub tokens : List Token

abbrev pub first : List ℕ → ℕ
first bytes = slice_index bytes 0

-- a comment, or blanks alone
abbrev pub is_passed : List ℕ → Bool
is_passed line = first line == 0x2A || list_all is_blank line

-- a line that goes on with the card before it
abbrev pub is_more : List ℕ → Bool
is_more line = first line == 0x2B

-- what lines hold: the tokens that go on with a card before them, and the cards that begin in them
pub record Cut : Type 0 where
  pub more : List Token
  pub cards : List Card

-- a line before others
abbrev pub before : ℕ → List ℕ → Cut → Cut
before number line behind =
    if is_passed line then behind
    else if is_more line
    then record { more = tokens_of (drop 1 line) ++ behind.more; cards = behind.cards }
    else record {
      more = [];
      cards = record { line = number; tokens = tokens_of line ++ behind.more } ∷ behind.cards;
    }

-- lines of which the first has this number
abbrev pub cut : ℕ → List (List ℕ) → Cut
cut number [] = record { more = []; cards = [] }
cut number (line ∷ lines) = before number line (cut (number + 1) lines)

abbrev pub cards_of : List ℕ → List Card
cards_of bytes = (cut 1 (lines_of bytes)).cards

-- the line of a `+` with no card before it
abbrev pub early_more_in : ℕ → List (List ℕ) → Option ℕ
early_more_in number [] = None
early_more_in number (line ∷ lines) =
    if is_passed line then early_more_in (number + 1) lines
    else if is_more line then Some number
    else None

abbrev pub early_more : List ℕ → Option ℕ
early_more bytes = early_more_in 1 (lines_of bytes)

-- the first line begins a card, or there is none
abbrev pub is_at_card : List (List ℕ) → Bool
is_at_card [] = true
is_at_card (line ∷ lines) = not (is_passed line) && not (is_more line)

-- the first line isn't passed over, or there is none
abbrev pub IsShown : List (List ℕ) → Type 0
IsShown [] = Unit {0}
IsShown (line ∷ lines) = is_passed line ≡ false
