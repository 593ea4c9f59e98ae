use Rattle.deep_laws.proofs.Zones.{array_zones, union}
use Rattle.deep_laws.proofs.laws.zone_laws.Goals as goal

pub returns : goal.returns
returns c = record { zones = array_zones; union = union }
