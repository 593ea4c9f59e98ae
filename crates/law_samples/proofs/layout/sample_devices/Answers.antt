use Rattle.law_samples.proofs.layout.Terminals.{devices, climbs, one_number, sees, one_net, on_pin, nodes, one_region}
use Rattle.law_samples.proofs.layout.sample_devices.Goals as goal

pub returns : goal.returns
returns c = record { devices = devices; part = climbs; one = one_number; shows = sees; nets = one_net; pins = on_pin; nodes = nodes; regions = one_region }
