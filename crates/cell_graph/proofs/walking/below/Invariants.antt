use Rattle.std.proofs.Common.{◌+◌, length}
use Rattle.cell_graph.proofs.walking.below.Given as goal
use Rattle.cell_graph.specs.Marking.{IsWalk, unmarked}

abbrev pub invariant-loop-next : goal.invariant-loop-next
invariant-loop-next l = IsWalk l.parts l.cell l.marks.items l.stack.items

abbrev pub decreases-loop-next : goal.decreases-loop-next
decreases-loop-next l = length l.stack.items + unmarked l.marks.items
