use Rattle.match_rounds.specs.Start.{AreKindParts}
use Rattle.match_rounds.proofs.starting.list_kinds.Given as goal

abbrev pub invariant-loop-node : goal.invariant-loop-node
invariant-loop-node l = AreKindParts l.graph l.parts.items l.node
