-- What the code's lists of pins, ports and tokens are.
use Rattle.std.specs.Prelude.{ℕ, List, map}
use Rattle.std.specs.Global.{Vec}
use Rattle.spice_cards.specs.Seen.{tokens_seen}
use Rattle.spice_cards.specs.Tokens as tokens
use Rattle.spice_cards.specs.declared.tokens.Token.{Token}

abbrev pub pins_seen : List (Vec ℕ) → List (List ℕ)
pins_seen pins = map (λ p. p.items) pins

abbrev pub tokens_in : Vec Token → List tokens.Token
tokens_in ts = tokens_seen ts.items
