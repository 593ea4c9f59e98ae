use Rattle.std.proofs.Common.{arith}
use Rattle.gds_elements.proofs.Trimmed.{end_less, end_kept, none_left}
use Rattle.gds_elements.proofs.data.trimmed.Goals as goal
use Rattle.gds_elements.proofs.data.trimmed.Goals.{then-loop-end-test+else-body-end-eq0, else-loop-end-test}

pub loop-end-preserved : goal.loop-end-preserved
loop-end-preserved c = (omega (arith, c.loop-end.invariant.0), end_less c.args.body.now c.loop-end.end c.loop-end-test.true c.loop-end.invariant.0 c.if-body-end-eq0.true c.loop-end.invariant.1)

pub returns : goal.returns
returns c =
    elim c.loop-end-test.branch [
      | then-loop-end-test+else-body-end-eq0 w ↦ end_kept c.args.body.now c.loop-end.end w.loop-end-test.true c.loop-end.invariant.0 w.if-body-end-eq0.false c.loop-end.invariant.1
      | else-loop-end-test w ↦ none_left c.args.body.now c.loop-end.end w.loop-end-test.false c.loop-end.invariant.1
    ]
