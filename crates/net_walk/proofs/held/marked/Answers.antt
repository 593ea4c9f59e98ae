use Rattle.std.proofs.Common.{arith}
use Rattle.net_walk.proofs.Holding.{all_marks, mark_more, mark_same, none_marked}
use Rattle.net_walk.proofs.held.marked.Goals as goal
use Rattle.net_walk.proofs.held.marked.Goals.{then-marks-number+in_ok-push, else-marks-number}

pub loop-number-init : goal.loop-number-init
loop-number-init c = rw c.new-numbers.ensures.items (none_marked c.args.marks.now)

pub returns : goal.returns
returns c = all_marks c.args.marks.now c.loop-number.number c.loop-number.numbers.items (omega arith) c.loop-number.invariant

pub loop-number-preserved : goal.loop-number-preserved
loop-number-preserved c =
    let ms = c.args.marks.now in
    let n = c.loop-number.number in
    elim c.if-marks-number.branch [
      | then-marks-number+in_ok-push w ↦ rw (w.numbers-is, w.in_ok-push.ensures.items) (mark_more ms n c.loop-number.numbers.items w.if-marks-number.true c.loop-number.invariant)
      | else-marks-number w ↦ rw w.numbers-is (mark_same ms n c.loop-number.numbers.items w.if-marks-number.false c.loop-number.invariant)
    ]
