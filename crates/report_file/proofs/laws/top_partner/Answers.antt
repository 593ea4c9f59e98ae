use Rattle.report_file.proofs.Named as lemma
use Rattle.report_file.proofs.laws.top_partner.Goals as goal

pub returns : goal.returns
returns c = lemma.top_partner
