use Rattle.std.proofs.Common.{◌≡◌, ◌++◌, map}
use Rattle.net_model.specs.Rows.{plain_device}
use Rattle.spice_text.specs.Means.{device_row}
use Rattle.spice_text.proofs.numbers.device_rows.Given as goal

abbrev pub invariant-devices : goal.invariant-devices
invariant-devices l = map plain_device l.rows.items ++ map (device_row l.nets) l.device-iterator.rest.items ≡ map (device_row l.nets) l.fn.devices.items
