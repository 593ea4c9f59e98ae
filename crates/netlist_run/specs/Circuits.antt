-- The circuits that cards name, by number in the order of their first sight, and their calls.
use Rattle.std.specs.Prelude.{ℕ, Bool, true, false, ◌&&◌, ◌||◌, nat_lt, List, [], ◌∷◌, ◌++◌, length}
use Rattle.std.specs.Prelude.{slice_index_or, slice_set, Option, Some, None, if◌then◌else◌}
use Rattle.net_names.specs.Folding.{folded_bytes}
use Rattle.text_table.specs.Texts.{place_of, with_text}
use Rattle.spice_cards.specs.Tokens.{Token, Word, Equals}
use Rattle.spice_cards.specs.Parts.{words_of}
use Rattle.spice_cards.specs.Cards.{Card, cards_of}
use Rattle.netlist_turn.specs.Words.{is_params, is_pins_word, row_of}
use Rattle.netlist_turn.specs.declared.rows.Row.{Row}
use Rattle.netlist_turn.specs.declared.rows.Row.TheVariants.{Call, Opening, Ending}

-- names, folded; the numbers that each calls, in order; whether a `.SUBCKT` begins it; and the
-- circuit in which the next card stands
pub record Circuits : Type 0 where
  pub names : List (List ℕ)
  pub calls : List (List ℕ)
  pub begun : List Bool
  pub inside : Option ℕ

abbrev pub none : Circuits
none = record { names = []; calls = []; begun = []; inside = None }

-- the number of a name
abbrev pub number_of : Circuits → List ℕ → ℕ
number_of c word = place_of c.names (folded_bytes word)

-- with the name; a new one calls none and isn't begun
abbrev pub named : Circuits → List ℕ → Circuits
named c word = record c {
  names = with_text c.names (folded_bytes word);
  calls = if nat_lt (number_of c word) (length c.calls) then c.calls else c.calls ++ [] ∷ [];
  begun = if nat_lt (number_of c word) (length c.calls) then c.begun else c.begun ++ false ∷ [];
}

-- the circuit of this number begins
abbrev pub begun_at : Circuits → ℕ → Circuits
begun_at c k = record c { begun = slice_set c.begun k true; inside = Some k }

-- `.SUBCKT name ..`
abbrev pub opened : Circuits → List (List ℕ) → Circuits
opened c [] = c
opened c (name ∷ words) = begun_at (named c name) (number_of c name)

-- a word that stands behind the name
abbrev pub is_behind_name : List ℕ → Bool
is_behind_name w = is_params w || is_pins_word w

-- the called circuit's name: the last word but `PARAMS:` and `$PINS`
abbrev pub called : List (List ℕ) → Option (List ℕ)
called [] = None
called (w ∷ []) = Some w
called (w ∷ p ∷ []) = if is_behind_name p then Some w else Some p
called (w ∷ p ∷ q ∷ words) = called (p ∷ q ∷ words)

-- one call more of a circuit
abbrev pub with_call : Circuits → ℕ → ℕ → Circuits
with_call c from to =
    record c { calls = slice_set c.calls from (slice_index_or c.calls from [] ++ to ∷ []) }

abbrev pub calling : Circuits → Option ℕ → Option (List ℕ) → Circuits
calling c None word = c
calling c (Some from) None = c
calling c (Some from) (Some word) = with_call (named c word) from (number_of c word)

-- a card more, by its row and words; one outside all circuits calls for none of them
abbrev pub with_row : Circuits → Row → List (List ℕ) → Circuits
with_row c Opening words = opened c words
with_row c Ending words = record c { inside = None }
with_row c Call words = calling c c.inside (called words)
with_row c row words = c

abbrev pub with_card : Circuits → List Token → Circuits
with_card c [] = c
with_card c (Equals ∷ ts) = c
with_card c (Word first ∷ ts) = with_row c (row_of first) (words_of ts)

abbrev pub with_cards : Circuits → List Card → Circuits
with_cards c [] = c
with_cards c (card ∷ cards) = with_cards (with_card c card.tokens) cards

-- the circuits of a text
abbrev pub circuits_of : List ℕ → Circuits
circuits_of bytes = with_cards none (cards_of bytes)

-- a circuit of this name begins
abbrev pub is_begun : Circuits → List ℕ → Bool
is_begun c word =
    nat_lt (number_of c word) (length c.calls) && slice_index_or c.begun (number_of c word) false
