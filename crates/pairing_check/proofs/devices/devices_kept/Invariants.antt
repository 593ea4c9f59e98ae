use Rattle.std.proofs.Common.{◌≡◌, ℕ, ◌<◌, slice_get, slice_index, Some}
use Rattle.plain_netlist.specs.Netlist.{DeviceRow}
use Rattle.net_model.specs.Rows.{plain_circuit}
use Rattle.match_laws.specs.Circuits.{IsDeviceImage}
use Rattle.pairing_check.proofs.devices.devices_kept.Given as goal

abbrev pub invariant-loop-k : goal.invariant-loop-k
invariant-loop-k l = (k : ℕ) (d e : DeviceRow) → k < l.k → slice_get (plain_circuit l.left).devices k ≡ Some d
    → slice_get (plain_circuit l.right).devices (slice_index l.devices k) ≡ Some e → IsDeviceImage l.nets d e
