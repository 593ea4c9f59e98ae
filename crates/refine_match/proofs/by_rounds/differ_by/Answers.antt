use Rattle.refine_match.proofs.Decided.{differs}
use Rattle.refine_match.proofs.by_rounds.differ_by.Goals as goal

pub returns : goal.returns
returns c = λ p h good m same limit. differs p c.args.round c.evidence_of.result same limit (c.evidence_of.ensures p h good) m
