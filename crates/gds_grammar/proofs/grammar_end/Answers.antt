use Rattle.gds_grammar.proofs.LastRecord.{stops}
use Rattle.gds_grammar.proofs.grammar_end.Goals as goal

pub returns : goal.returns
returns c = stops
