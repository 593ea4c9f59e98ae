-- Cards on which `$` marks the model, the bulk and the sizes, in the order of other cards.
use Rattle.std.specs.Prelude.{ℕ, zero, suc, ◌-◌, ◌==◌, ◌&&◌, ◌||◌, nat_lt, Bool, false}
use Rattle.std.specs.Prelude.{List, [], ◌∷◌, ◌++◌, length, map, slice_index, slice_range, codes}
use Rattle.std.specs.Prelude.{if◌then◌else◌}
use Rattle.spice_cards.specs.Parts.{behind_words, words_of}
use Rattle.spice_cards.specs.Tokens.{Token, Word, Equals}
use Rattle.spice_rows.specs.Names.{is_text}
use Rattle.netlist_turn.specs.CardLaw.{kept_words}
use Rattle.netlist_turn.specs.Listed.{words_told}
use Rattle.netlist_turn.specs.Made.{Made, telling}
use Rattle.netlist_turn.specs.declared.made.Kind.TheVariants.{Marked}
use Rattle.netlist_turn.specs.declared.rows.Row.{Row}

-- `$[model]`
abbrev pub is_mark : List ℕ → Bool
is_mark w =
    nat_lt 3 (length w) && slice_index w 0 == 0x24 && slice_index w 1 == 0x5B
    && slice_index w (length w - 1) == 0x5D

abbrev pub model_in : List ℕ → List ℕ
model_in w = if is_mark w then slice_range w 2 (length w - 1) else w

abbrev pub is_bulk_key : List ℕ → Bool
is_bulk_key key = is_text (codes "$SUB") key

abbrev pub is_size_mark : List ℕ → Bool
is_size_mark key = is_text (codes "$W") key || is_text (codes "$L") key

-- a size's name is the letter
abbrev pub bare : List ℕ → List ℕ
bare key = if is_size_mark key then slice_range key 1 (length key) else key

abbrev pub has_marks : List Token → Bool
has_marks [] = false
has_marks (Equals ∷ ts) = has_marks ts
has_marks (Word w ∷ ts) = is_mark w || is_bulk_key w || is_size_mark w || has_marks ts

-- the words that are no marks
abbrev pub unmarked : List (List ℕ) → List (List ℕ)
unmarked [] = []
unmarked (w ∷ ws) = if is_mark w then unmarked ws else w ∷ unmarked ws

-- what stands behind an `=`
abbrev pub value_in : List Token → List Token
value_in (Equals ∷ Word v ∷ ts) = Word v ∷ []
value_in ts = []

-- the nets of bulks
abbrev pub bulks_in : List Token → List Token
bulks_in [] = []
bulks_in (Equals ∷ ts) = bulks_in ts
bulks_in (Word w ∷ ts) = if is_bulk_key w then value_in ts ++ bulks_in ts else bulks_in ts

-- the models
abbrev pub models_in : List Token → List Token
models_in [] = []
models_in (Equals ∷ ts) = models_in ts
models_in (Word w ∷ ts) = if is_mark w then Word (model_in w) ∷ models_in ts else models_in ts

-- the other tokens, behind the first n
abbrev pub others : ℕ → List Token → List Token
others n [] = []
others (suc n) (t ∷ ts) = others n ts
others zero (Equals ∷ ts) = Equals ∷ others 0 ts
others zero (Word w ∷ ts) =
    if is_mark w then others 0 ts
    else if is_bulk_key w then others 2 ts
    else Word (bare w) ∷ others 0 ts

-- the tokens behind the first word: nets, bulk, model, and the parameters
abbrev pub ordered : Row → List Token → List Token
ordered row ts =
    map Word (kept_words row (unmarked (words_of ts)))
    ++ (bulks_in ts ++ (models_in ts ++ others 0 (behind_words ts)))

-- that they stand so, and a number among the words that is left out, is told
abbrev pub marks_told : Row → Made → ℕ → List ℕ → List Token → Made
marks_told row m line first ts =
    telling (words_told row m line (unmarked (words_of ts))) line Marked first
