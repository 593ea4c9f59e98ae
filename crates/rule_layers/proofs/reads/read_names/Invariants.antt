use Rattle.rule_layers.proofs.Unread.{AreReadTo}
use Rattle.rule_layers.proofs.reads.read_names.Given as goal

abbrev pub invariant-loop-k : goal.invariant-loop-k
invariant-loop-k l = AreReadTo l.names l.devices l.further l.k l.read.items
