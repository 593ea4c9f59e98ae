use Rattle.std.proofs.Common.{arith}
use Rattle.net_phase.proofs.Graphing.{input_within, mark_more}
use Rattle.net_phase.proofs.graph.mark.Goals as goal

pub bounds-marks-input : goal.bounds-marks-input
bounds-marks-input c =
    let long = c.loop-input.invariant.count in
    let lt = input_within c.args.inputs.now c.args.job c.loop-input.input-index c.requires.inputs (omega arith) in
    let job = c.requires.job in
    omega (arith, long, lt, job)

pub loop-input-preserved : goal.loop-input-preserved
loop-input-preserved c =
    let lt = input_within c.args.inputs.now c.args.job c.loop-input.input-index c.requires.inputs (omega arith) in
    let job = c.requires.job in
    mark_more c.args.marks.now c.loop-input.marks c.args.job c.loop-input.input-index c.args.inputs.now (omega arith) (omega (arith, lt, job)) c.loop-input.invariant
