use Rattle.match_rounds.specs.Pieces.{AreNodesOf}
use Rattle.match_rounds.proofs.groups.list_nodes.Given as goal

abbrev pub invariant-loop-i : goal.invariant-loop-i
invariant-loop-i l = AreNodesOf l.parts l.from l.i l.group.items
