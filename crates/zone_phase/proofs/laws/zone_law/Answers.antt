use Rattle.zone_phase.proofs.Steps.{grown_up, zone_step}
use Rattle.zone_phase.proofs.laws.zone_law.Goals as goal

pub returns : goal.returns
returns c = record { grown = grown_up; step = zone_step }
