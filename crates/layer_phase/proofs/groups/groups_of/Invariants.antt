use Rattle.layer_phase.specs.Groups.{AreGroupsTo}
use Rattle.layer_phase.proofs.groups.groups_of.Given as goal

abbrev pub invariant-loop-name : goal.invariant-loop-name
invariant-loop-name l = AreGroupsTo l.names l.name l.groups.items
