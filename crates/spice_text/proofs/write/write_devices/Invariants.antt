use Rattle.std.proofs.Common.{◌+◌, drop, map}
use Rattle.net_model.specs.Rows.{plain_device}
use Rattle.spice_text.specs.Written.{AreTexts, IsDeviceText, HasWritten}
use Rattle.spice_text.proofs.write.write_devices.Given as goal

abbrev pub invariant-devices : goal.invariant-devices
invariant-devices l = HasWritten (AreTexts (IsDeviceText l.nets) (l.i + 1) (map plain_device (drop l.i l.devices))) (AreTexts (IsDeviceText l.nets) 1 (map plain_device l.devices)) l.initial.out.items l.out.items
