use Rattle.gds_grammar.proofs.GrammarLaw.{grammar_law}
use Rattle.gds_grammar.proofs.grammar.Goals as goal

pub returns : goal.returns
returns c = grammar_law
