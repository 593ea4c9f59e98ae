use Rattle.std.proofs.Common.{take, []}
use Rattle.gate_shapes.specs.Sorted.{AreSortedOut}
use Rattle.gate_shapes.proofs.pieces.sorted_out.Given as goal

abbrev pub invariant-loop-n : goal.invariant-loop-n
invariant-loop-n l = AreSortedOut [] [] l._n l.lists.items

abbrev pub invariant-loop-i : goal.invariant-loop-i
invariant-loop-i l = AreSortedOut (take l.i l.rects) (take l.i l.class_of) l.count l.lists.items
