use Rattle.std.proofs.Common.{drop, map}
use Rattle.net_model.specs.Rows.{plain_device}
use Rattle.spice_text.specs.Written.{AreTexts, HasWritten}
use Rattle.view_netlist.specs.Circuits.{IsDeviceText}
use Rattle.view_netlist.proofs.circuits.push_devices.Given as goal

abbrev pub invariant-devices : goal.invariant-devices
invariant-devices l = HasWritten (AreTexts (IsDeviceText l.places) l.i (map plain_device (drop l.i l.devices))) (AreTexts (IsDeviceText l.places) 0 (map plain_device l.devices)) l.initial.out.items l.out.items
