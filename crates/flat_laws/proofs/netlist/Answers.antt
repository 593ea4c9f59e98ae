use Rattle.flat_laws.proofs.Climb.{parts, netting}
use Rattle.flat_laws.proofs.Expand.{expanded}
use Rattle.flat_laws.proofs.Flat.{flat_netlist, flat_regions}
use Rattle.flat_laws.proofs.Planned.{planned}
use Rattle.flat_laws.proofs.Devices.{device_of_rule}
use Rattle.flat_laws.proofs.Rows.{rows}
use Rattle.flat_laws.proofs.netlist.Goals as goal

pub returns : goal.returns
returns c = record { rows = rows; planned = planned; formed = device_of_rule; part = parts; net = netting; devices = expanded; flat = flat_netlist; regions = flat_regions }
