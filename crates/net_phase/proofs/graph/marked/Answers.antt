use Rattle.std.proofs.Common.{arith}
use Rattle.net_phase.proofs.Graphing.{number_more, number_none}
use Rattle.net_phase.proofs.graph.marked.Goals.{then-mark+in_ok-push, else-mark}
use Rattle.net_phase.proofs.graph.marked.Goals as goal

pub loop-number-preserved : goal.loop-number-preserved
loop-number-preserved c =
    let n = c.loop-number.number in
    let old = c.loop-number.numbers.items in
    elim c.if-mark.branch [
      | then-mark+in_ok-push w ↦ rw w.numbers-is (rw w.in_ok-push.ensures.items (number_more c.args.marks.now n old (omega arith) w.if-mark.true c.loop-number.invariant))
      | else-mark w ↦ rw w.numbers-is (number_none c.args.marks.now n old (omega arith) w.if-mark.false c.loop-number.invariant)
    ]
