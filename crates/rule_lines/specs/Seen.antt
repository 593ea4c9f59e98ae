-- The code's tokens as those of the definitions.
use Rattle.std.specs.Prelude.{List, [], ◌∷◌, Option, Some, None, map}
use Rattle.rule_lines.specs.Tokens.{Token, Word, Text, Mark, Arrow, Bad}
use Rattle.rule_lines.specs.declared.tokens.Token.{Token as Code}
use Rattle.rule_lines.specs.declared.tokens.Token.TheVariants as code

abbrev pub seen : Code → Token
seen (code.Word w) = Word w.now
seen (code.Text w) = Text w.now
seen (code.Mark b) = Mark b
seen code.Arrow = Arrow
seen code.Bad = Bad

abbrev pub seen_all : List Code → List Token
seen_all ts = map seen ts

abbrev pub seen_some : Option Code → List Token
seen_some None = []
seen_some (Some t) = seen t ∷ []
