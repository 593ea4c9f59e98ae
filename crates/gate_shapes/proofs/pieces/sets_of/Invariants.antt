use Rattle.std.proofs.Common.{take}
use Rattle.gate_shapes.specs.Sorted.{AreSetsOf}
use Rattle.gate_shapes.proofs.pieces.sets_of.Given as goal

abbrev pub invariant-loop-list : goal.invariant-loop-list
invariant-loop-list l = AreSetsOf (take l.list-index l.lists) l.sets.items
