-- The code's tokens as those of the definitions.
use Rattle.std.specs.Prelude.{List, [], ◌∷◌, Option, Some, None, map}
use Rattle.script_lexis.specs.Tokens.{Token, Placed, Name, Label, Symbol, Variable, Number}
use Rattle.script_lexis.specs.Tokens.{Text, Mixed, Sign, End, Bad}
use Rattle.script_lexis.specs.declared.tokens.Token.{Token as Code}
use Rattle.script_lexis.specs.declared.tokens.Token.TheVariants as code
use Rattle.script_lexis.specs.declared.tokens.Placed.{Placed as CodePlaced}

abbrev pub seen : Code → Token
seen (code.Name w) = Name w.now
seen (code.Label w) = Label w.now
seen (code.Symbol w) = Symbol w.now
seen (code.Variable w) = Variable w.now
seen (code.Number w) = Number w.now
seen (code.Text w) = Text w.now
seen (code.Mixed w) = Mixed w.now
seen (code.Sign s) = Sign s
seen code.End = End
seen code.Bad = Bad

abbrev pub placed : CodePlaced → Placed
placed p = record { at = p.at; spaced = p.spaced; token = seen p.token }

abbrev pub seen_all : List CodePlaced → List Placed
seen_all ps = map placed ps

abbrev pub seen_some : Option Code → List Token
seen_some None = []
seen_some (Some t) = seen t ∷ []
