-- How the sizes of a device stand on its card.
use Rattle.std.specs.Prelude.{ℕ, slice_index, if◌then◌else◌}
use Rattle.plain_netlist.specs.declared.kinds.DeviceKind.{DeviceKind}
use Rattle.plain_netlist.specs.Devices.{IsFormed}
use Rattle.plain_netlist.specs.Netlist.{DeviceRow, Netlist, IsDevice}
use Rattle.spice_rows.specs.Kinds.{first_key, has_area, second_key}

abbrev pub first_size : DeviceRow → ℕ
first_size d = slice_index d.sizes 0

abbrev pub second_size : DeviceRow → ℕ
second_size d = slice_index d.sizes 1

-- an area stands before a length: L and W, of a diode A and P
abbrev pub front_key : DeviceKind → ℕ
front_key kind = if has_area kind then second_key kind else first_key kind

abbrev pub back_key : DeviceKind → ℕ
back_key kind = if has_area kind then first_key kind else second_key kind

-- each device has the terminals and sizes of its kind
abbrev pub AreFormed : Netlist → Type 0
AreFormed nl = (t i : ℕ) (d : DeviceRow) → IsDevice nl t i d → IsFormed d
