-- What is made of a text of which nothing is told but cards that say nothing means what that text
-- means.
use Rattle.std.specs.Prelude.{◌≡◌, ℕ, Bool, true, false, List, [], ◌∷◌, Option, None, Ok, codes}
use Rattle.plain_netlist.specs.Netlist.{Netlist}
use Rattle.spice_cards.specs.Cards.{Card, cards_of, early_more}
use Rattle.spice_cards.specs.Tokens.{Token, Word, Equals}
use Rattle.spice_rows.specs.Names.{is_text}
use Rattle.spice_rows.specs.Sizes.{Limits}
use Rattle.spice_text.specs.Means.{Means}
use Rattle.netlist_turn.specs.KeptLaw.{IsQuiet, IsWhole, saying, tokens_in}
use Rattle.netlist_turn.specs.Made.{Made}
use Rattle.netlist_turn.specs.Turning.{turned}
use Rattle.netlist_turn.specs.Words.{has_escape}
use Rattle.netlist_turn.specs.declared.settings.Settings.{Settings}

-- `.END`
abbrev pub is_end : List Token → Bool
is_end [] = false
is_end (Equals ∷ ts) = false
is_end (Word w ∷ ts) = is_text (codes ".END") w

-- no card stands behind `.END`
abbrev pub EndsLast : List Card → Type 0
EndsLast [] = Unit {0}
EndsLast (c ∷ cs) = (is_end c.tokens ≡ true → cs ≡ []) × EndsLast cs

-- a text of all cards of another that say something means what that text means
abbrev pub SameCardsLaw : Type 0
SameCardsLaw = (limit : Option Limits) (text other : List ℕ) (n : Netlist) → early_more other ≡ None
    → tokens_in (cards_of other) ≡ saying (cards_of text) → EndsLast (cards_of text)
    → Means limit text n → Means limit other n

-- a text that the reader takes, without a backslash, keeps its netlist, where all circuits and
-- devices are kept and nothing is told but cards that were left out
abbrev pub KeptNetlistLaw : Type 0
KeptNetlistLaw = (limit : Option Limits) (s : Settings) (text : List ℕ) (m : Made) (n : Netlist)
    → IsWhole s → has_escape text ≡ false → EndsLast (cards_of text) → turned s text ≡ Ok m
    → IsQuiet m → Means limit text n → Means limit m.text n
