use Rattle.std.proofs.Common.{length}
use Rattle.match_parts.specs.Marks.{IsMarked}
use Rattle.match_parts.proofs.marks.is_one_to_one.Given as goal

abbrev pub invariant-loop-i : goal.invariant-loop-i
invariant-loop-i l = IsMarked l.numbers l.i (length l.fn.marks) l.marks
