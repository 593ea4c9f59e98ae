use Rattle.std.proofs.Common.{ap, arith, length}
use Rattle.zone_phase.specs.Uses.{lists_of}
use Rattle.zone_phase.proofs.Putting.{all_put}
use Rattle.zone_phase.proofs.uses.find_uses.Goals as goal

pub returns : goal.returns
returns c =
    all_put c.args.design.now (lists_of c.loop-job.lists.items) c.loop-job.job
    (let a = c.loop-job-test.false in let b = c.loop-job.auto.job-end in let e = ap length c.order-job-end.ensures in omega arith) c.loop-job.invariant
