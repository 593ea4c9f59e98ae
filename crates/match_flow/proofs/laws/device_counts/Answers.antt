use Rattle.match_flow.proofs.Counted.{uneven_devices}
use Rattle.match_flow.proofs.laws.device_counts.Goals as goal

pub returns : goal.returns
returns c = uneven_devices
