use Rattle.report_file.proofs.Matched as lemma
use Rattle.report_file.proofs.laws.matching.Goals as goal

pub returns : goal.returns
returns c = lemma.matching
