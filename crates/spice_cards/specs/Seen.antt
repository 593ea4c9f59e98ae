-- What the code's records are.
use Rattle.std.specs.Prelude.{ℕ, List, [], ◌∷◌, map, Option, Some, None}
use denote.Ref.{Bor}
use Rattle.spice_cards.specs.Tokens as tokens
use Rattle.spice_cards.specs.Parts as parts
use Rattle.spice_cards.specs.declared.tokens.Token.{Token}
use Rattle.spice_cards.specs.declared.tokens.Token.TheVariants as code
use Rattle.spice_cards.specs.declared.parts.Param.{Param}

abbrev pub seen : Token → tokens.Token
seen (code.Word w) = tokens.Word w.now
seen code.Equals = tokens.Equals

abbrev pub tokens_seen : List Token → List tokens.Token
tokens_seen ts = map seen ts

abbrev pub some_seen : Option Token → List tokens.Token
some_seen None = []
some_seen (Some t) = seen t ∷ []

abbrev pub words_seen : List (Bor (List ℕ)) → List (List ℕ)
words_seen ws = map (λ w. w.now) ws

abbrev pub param_seen : Param → parts.Param
param_seen p = record { key = p.key.now; value = p.value.now }

abbrev pub params_seen : List Param → List parts.Param
params_seen ps = map param_seen ps
