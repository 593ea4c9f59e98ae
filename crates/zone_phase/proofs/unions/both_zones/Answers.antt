use Rattle.zone_phase.proofs.Uniting.{united}
use Rattle.zone_phase.proofs.unions.both_zones.Goals as goal

pub returns : goal.returns
returns c = united c.args.a.now c.args.b.now c.in_ok-set.set c.in_ok-set.ensures
