use Rattle.std.proofs.Common.{arith}
use Rattle.lvs_outside.proofs.Numbers.{none_reached}
use Rattle.lvs_outside.proofs.schedule.Schedule.new.Goals as goal

pub returns-clause-faults : goal.returns-clause-faults
returns-clause-faults c = omega (arith, none_reached c.args.failing.items)
