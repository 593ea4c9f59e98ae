-- What is written of a kept card: a line that is read as its first word, the words of it that are
-- kept, and its kept parameters, whose values were turned.
use Rattle.std.specs.Prelude.{◌≡◌, ℕ, List, [], ◌∷◌, ◌++◌, length, map, flat_map, is_some, Option}
use Rattle.std.specs.Prelude.{Some, None, Result, Ok, Err, if◌then◌else◌}
use Rattle.std.specs.List.{All}
use Rattle.fixed_num.specs.declared.femto.ValueFault.{ValueFault}
use Rattle.spice_cards.specs.Tokens.{Token, Word, Equals, tokens_of, word_len}
use Rattle.spice_cards.specs.Parts.{Param}
use Rattle.netlist_turn.specs.Made.{Made, card_made, factor_at, meant, value_for}
use Rattle.netlist_turn.specs.Scale.{scaled, size_text}
use Rattle.netlist_turn.specs.Words.{is_kept_key, left_out, unquoted}
use Rattle.netlist_turn.specs.declared.made.Kind.{Kind}
use Rattle.netlist_turn.specs.declared.rows.Row.{Row}
use Rattle.netlist_turn.specs.declared.scale.Factor.{Factor}
use Rattle.netlist_turn.specs.declared.settings.Settings.{Settings}

abbrev pub kept_or : List ℕ → Option Kind → List (List ℕ) → List (List ℕ)
kept_or w None rest = w ∷ rest
kept_or w (Some kind) rest = rest

-- the words that say something
abbrev pub kept_words : Row → List (List ℕ) → List (List ℕ)
kept_words row [] = []
kept_words row (w ∷ ws) = kept_or w (left_out row w ws) (kept_words row ws)

abbrev pub size_or : List ℕ → Factor → Result ℕ ValueFault → List ℕ
size_or text f (Ok n) = size_text f n
size_or text f (Err e) = text

-- by the scale, where it is a size
abbrev pub turned_text : Option Factor → List ℕ → List ℕ
turned_text None text = text
turned_text (Some factor) text = size_or text factor (scaled factor text)

-- without quotes, a name's value in its place
abbrev pub turned_value : Settings → Row → Param → List ℕ
turned_value s row p =
    turned_text (factor_at s row p.key) (meant (unquoted p.value) (value_for s (unquoted p.value)))

-- the parameters that are kept
abbrev pub turned_params : Settings → Row → List Param → List Param
turned_params s row [] = []
turned_params s row (p ∷ ps) =
    if is_kept_key (is_some s.scale) row p.key
    then record { key = p.key; value = turned_value s row p } ∷ turned_params s row ps
    else turned_params s row ps

-- each word, and a blank behind it
abbrev pub words_text : List (List ℕ) → List ℕ
words_text [] = []
words_text (w ∷ ws) = w ++ (0x20 ∷ words_text ws)

abbrev pub params_text : List Param → List ℕ
params_text [] = []
params_text (p ∷ ps) = p.key ++ (0x3D ∷ (p.value ++ (0x20 ∷ params_text ps)))

abbrev pub CardTextLaw : Type 0
CardTextLaw = (s : Settings) (row : Row) (m : Made) (line : ℕ) (first : List ℕ)
    (words : List (List ℕ)) (ps : List Param)
    → (card_made s row m line first words ps).text
    ≡ m.text ++ (words_text (first ∷ kept_words row words)
    ++ (params_text (turned_params s row ps) ++ 0x0A ∷ []))

-- a word: it isn't empty, and none of its bytes ends it
abbrev pub IsWord : List ℕ → Type 0
IsWord [] = ⊥
IsWord (b ∷ bytes) = word_len (b ∷ bytes) ≡ length (b ∷ bytes)

-- two words, of which an `=` ends the first
pub record IsPair (p : Param) : Type 0 where
  pub key : IsWord p.key
  pub value : IsWord p.value
  pub ends : word_len (p.key ++ 0x3D ∷ []) ≡ length p.key

abbrev pub param_tokens : Param → List Token
param_tokens p = Word p.key ∷ Equals ∷ Word p.value ∷ []

abbrev pub CardTokensLaw : Type 0
CardTokensLaw = (ws : List (List ℕ)) (ps : List Param) → All IsWord ws → All IsPair ps
    → tokens_of (words_text ws ++ params_text ps) ≡ map Word ws ++ flat_map param_tokens ps
