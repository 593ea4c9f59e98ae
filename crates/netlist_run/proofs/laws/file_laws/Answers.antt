use Rattle.netlist_run.proofs.PlainFile.{kept_file, plain_file}
use Rattle.netlist_run.proofs.laws.file_laws.Goals as goal

pub returns-clause-plain : goal.returns-clause-plain
returns-clause-plain c = plain_file c.line_laws.ensures.plain

pub returns-clause-kept : goal.returns-clause-kept
returns-clause-kept c = kept_file c.line_laws.ensures.plain c.netlist_laws.ensures.kept
