use Rattle.report_file.proofs.OneAnswer as lemma
use Rattle.report_file.proofs.laws.as_before.Goals as goal

pub returns : goal.returns
returns c = lemma.as_before c.pairs.ensures.sides c.pairs.ensures.order c.answers.ensures.together c.answers.ensures.one
