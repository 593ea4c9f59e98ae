use Rattle.gate_shapes.specs.Shapes.{KeptSoFar}
use Rattle.gate_shapes.proofs.shape.kept_by.Given as goal

abbrev pub invariant-loop-i : goal.invariant-loop-i
invariant-loop-i l = KeptSoFar l.groups l.touched l.i l.kept.items
