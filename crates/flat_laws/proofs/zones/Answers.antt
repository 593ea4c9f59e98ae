use Rattle.flat_laws.proofs.Zone.{zones}
use Rattle.flat_laws.proofs.zones.Goals as goal

pub returns : goal.returns
returns c = zones
