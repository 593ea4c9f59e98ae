use Rattle.refine_match.specs.Evidence.{AreEvenFrom}
use Rattle.refine_match.proofs.evidence.first_uneven.Given as goal

abbrev pub invariant-loop-node : goal.invariant-loop-node
invariant-loop-node l = AreEvenFrom l.graph l.classes l.from l.node
