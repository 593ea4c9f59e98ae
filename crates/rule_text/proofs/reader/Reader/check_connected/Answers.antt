use Rattle.std.proofs.lemmas.Result.{err_from_is_err_and}
use Rattle.rule_text.proofs.reader.Reader.check_connected.Goals as goal

pub returns-in_err-conductors-clause-fault : goal.returns-in_err-conductors-clause-fault
returns-in_err-conductors-clause-fault c = let p = err_from_is_err_and c.from_residual.result c.from_residual.ensures.1 in rw (p.1, p.2) tt
