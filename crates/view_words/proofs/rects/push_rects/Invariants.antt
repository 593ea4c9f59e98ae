use Rattle.std.proofs.Common.{length}
use Rattle.view_words.proofs.Rows.{RowsSoFar}
use Rattle.view_words.proofs.rects.push_rects.Given as goal

abbrev pub invariant-rects : goal.invariant-rects
invariant-rects l = RowsSoFar l.layer l.out.items l.corner l.rest l.initial.out.items l.fn.from l.rects

abbrev pub decreases-rects : goal.decreases-rects
decreases-rects l = length l.rest
