use Rattle.std.proofs.Common.{inr}
use Rattle.refine_match.proofs.by_rounds.by_verdict.Goals as goal

pub returns-in-Refuted : goal.returns-in-Refuted
returns-in-Refuted c = λ p h good matched. c.differ_by.ensures p h good (inr matched)

pub returns-in-Stable : goal.returns-in-Stable
returns-in-Stable c = c.by_classes.ensures
