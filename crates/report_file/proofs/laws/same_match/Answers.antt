use Rattle.report_file.proofs.Helps as lemma
use Rattle.report_file.proofs.laws.same_match.Goals as goal

pub returns : goal.returns
returns c = lemma.same_match
