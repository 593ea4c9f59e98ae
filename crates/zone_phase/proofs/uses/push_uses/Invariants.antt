use Rattle.zone_phase.specs.Uses.{AreUsesTo, lists_of}
use Rattle.zone_phase.proofs.uses.push_uses.Given as goal

abbrev pub invariant-loop-index : goal.invariant-loop-index
invariant-loop-index l = AreUsesTo l.design (lists_of l.lists.items) l.job l.index
