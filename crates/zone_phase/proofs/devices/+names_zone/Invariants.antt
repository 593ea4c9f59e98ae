use Rattle.std.proofs.Common.{length}
use Rattle.zone_phase.proofs.devices.+names_zone.Given as goal

abbrev pub decreases-names_zone : goal.decreases-names_zone
decreases-names_zone l = length l.names.now
