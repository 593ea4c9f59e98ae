use Rattle.std.proofs.Common.{subst}
use Rattle.plain_netlist.specs.Devices.{IsFormed}
use Rattle.spice_rows.specs.Rows.{DeviceCard}
use Rattle.spice_rows.proofs.Formed.{formed_in}
use Rattle.spice_rows.proofs.device.DeviceCard.kind.Goals as goal

pub returns-clause-formed : goal.returns-clause-formed
returns-clause-formed c = subst (λ (d : DeviceCard). IsFormed d) c.self.view_is (formed_in c.self.inside c.self.invariant)
