-- Where nothing is told but cards that say nothing of the netlist, the others stand as they were.
use Rattle.std.specs.Prelude.{◌≡◌, ℕ, Bool, true, false, List, [], ◌∷◌, map, None, Ok}
use Rattle.std.specs.Prelude.{if◌then◌else◌}
use Rattle.std.specs.List.{list_all}
use Rattle.spice_cards.specs.Cards.{Card, cards_of, early_more}
use Rattle.spice_cards.specs.Tokens.{Token, Word, Equals}
use Rattle.netlist_turn.specs.Made.{Made, Told}
use Rattle.netlist_turn.specs.Turning.{turned}
use Rattle.netlist_turn.specs.Words.{has_escape, row_of}
use Rattle.netlist_turn.specs.declared.made.Kind.{Kind}
use Rattle.netlist_turn.specs.declared.made.Kind.TheVariants as kind
use Rattle.netlist_turn.specs.declared.rows.Row.{Row}
use Rattle.netlist_turn.specs.declared.rows.Row.TheVariants.{Passed}
use Rattle.netlist_turn.specs.declared.settings.Settings.{Settings}

-- all circuits are kept, no device is to be left out, and no name is listed
pub record IsWhole (s : Settings) : Type 0 where
  pub all : s.all ≡ true
  pub capacitors : s.capacitors ≡ false
  pub resistors : s.resistors ≡ false
  pub listed : s.listed ≡ []
  pub devices : s.devices.items ≡ []

abbrev pub is_passed_row : Row → Bool
is_passed_row Passed = true
is_passed_row row = false

-- a card that says nothing of the netlist, by its first word
abbrev pub is_silent : List Token → Bool
is_silent [] = false
is_silent (Equals ∷ ts) = false
is_silent (Word w ∷ ts) = is_passed_row (row_of w)

-- the tokens of the others
abbrev pub saying : List Card → List (List Token)
saying [] = []
saying (c ∷ cs) = if is_silent c.tokens then saying cs else c.tokens ∷ saying cs

abbrev pub is_of_card : Kind → Bool
is_of_card kind.Card = true
is_of_card k = false

abbrev pub tells_card : Told → Bool
tells_card t = is_of_card t.kind

-- no change is told but cards that were left out
abbrev pub IsQuiet : Made → Type 0
IsQuiet m = list_all tells_card m.told ≡ true

abbrev pub tokens_in : List Card → List (List Token)
tokens_in cards = map (λ (c : Card). c.tokens) cards

-- then the cards of what is made have the tokens of these cards, in their order
abbrev pub KeptCardsLaw : Type 0
KeptCardsLaw = (s : Settings) (text : List ℕ) (m : Made) → IsWhole s → has_escape text ≡ false
    → turned s text ≡ Ok m → IsQuiet m → tokens_in (cards_of m.text) ≡ saying (cards_of text)

-- and no `+` stands before the first of them
abbrev pub KeptStartLaw : Type 0
KeptStartLaw = (s : Settings) (text : List ℕ) (m : Made) → IsWhole s → has_escape text ≡ false
    → turned s text ≡ Ok m → IsQuiet m → early_more m.text ≡ None
