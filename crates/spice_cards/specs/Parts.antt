-- A card's words, and its parameters behind them.
use Rattle.std.specs.Prelude.{ℕ, Bool, true, false, List, [], ◌∷◌, Option, Some, None}
use Rattle.std.specs.Prelude.{if◌then◌else◌}
use Rattle.spice_cards.specs.Tokens.{Token, Word, Equals}

pub record Param : Type 0 where
  pub key : List ℕ
  pub value : List ℕ

abbrev pub begins_equals : List Token → Bool
begins_equals [] = false
begins_equals (Equals ∷ ts) = true
begins_equals (Word w ∷ ts) = false

-- the words before the first that an `=` follows
abbrev pub words_of : List Token → List (List ℕ)
words_of [] = []
words_of (Equals ∷ ts) = []
words_of (Word w ∷ ts) = if begins_equals ts then [] else w ∷ words_of ts

-- the tokens behind them
abbrev pub behind_words : List Token → List Token
behind_words [] = []
behind_words (Equals ∷ ts) = Equals ∷ ts
behind_words (Word w ∷ ts) = if begins_equals ts then Word w ∷ ts else behind_words ts

abbrev pub onto : Param → Option (List Param) → Option (List Param)
onto p None = None
onto p (Some ps) = Some (p ∷ ps)

-- words with an `=` between, in pairs; none where anything else stands there
abbrev pub params_of : List Token → Option (List Param)
params_of [] = Some []
params_of (Word k ∷ Equals ∷ Word v ∷ ts) = onto (record { key = k; value = v }) (params_of ts)
params_of _ = None
