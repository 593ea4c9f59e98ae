use Rattle.zone_phase.specs.Uses.{AreUsesTo, lists_of}
use Rattle.zone_phase.proofs.uses.find_uses.Given as goal

abbrev pub invariant-loop-job : goal.invariant-loop-job
invariant-loop-job l = AreUsesTo l.design (lists_of l.lists.items) l.job 0
