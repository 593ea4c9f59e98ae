use Rattle.rule_layers.proofs.Wired.{conductors, known, terminals}
use Rattle.rule_layers.proofs.meaning.Goals as goal

pub returns : goal.returns
returns c = record { conductor = conductors; global = known; terminal = terminals }
