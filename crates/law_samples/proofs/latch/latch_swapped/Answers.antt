use Rattle.round_laws.specs.Nodes.{Layout, Schematic}
use Rattle.law_samples.proofs.latch.Rounds.{fits, all_matched, answered}
use Rattle.law_samples.proofs.latch.Whole.{whole}
use Rattle.law_samples.proofs.latch.latch_swapped.Goals as goal

pub returns-clause-answer : goal.returns-clause-answer
returns-clause-answer c = (fits Layout, fits Schematic, all_matched, answered)

pub returns-clause-whole : goal.returns-clause-whole
returns-clause-whole c = whole
