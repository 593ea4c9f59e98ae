-- Rows of circuits as plain records.
use Rattle.std.specs.Prelude.{◌≡◌, ◌<◌, ℕ, List, Option, Some, length, slice_get, slice_index}
use Rattle.plain_netlist.specs.Lists.{IsListed}
use Rattle.plain_netlist.specs.Devices.{terminal_nets}
use Rattle.plain_netlist.specs.Netlist.{DeviceRow, CallRow, Circuit}
use Rattle.match_laws.specs.Circuits.{IsOneToOne}

-- the terminals stand on nets below n
abbrev pub AreTerminalsBelow : DeviceRow → ℕ → Type 0
AreTerminalsBelow d n = (m : ℕ) → IsListed m (terminal_nets d) → m < n

-- each entry is below n
abbrev pub AreBelow : List ℕ → ℕ → Type 0
AreBelow xs n = (i : ℕ) → i < length xs → slice_index xs i < n

-- the devices stand on nets below n
abbrev pub AreDevicesOn : Circuit → ℕ → Type 0
AreDevicesOn c n = (k : ℕ) (d : DeviceRow) → slice_get c.devices k ≡ Some d → AreTerminalsBelow d n

-- so do the calls
abbrev pub AreCallsOn : Circuit → ℕ → Type 0
AreCallsOn c n = (k : ℕ) (r : CallRow) → slice_get c.calls k ≡ Some r → AreBelow r.nets n

-- the list of a call's pair is one to one over its pins
abbrev pub AreCallPins : (ℕ → Option (List ℕ)) → CallRow → Type 0
AreCallPins children r = (pins : List ℕ) → children r.circuit ≡ Some pins
    → IsOneToOne pins (length r.nets) (length r.nets)

abbrev pub ArePinsOf : Circuit → (ℕ → Option (List ℕ)) → Type 0
ArePinsOf c children = (k : ℕ) (r : CallRow) → slice_get c.calls k ≡ Some r → AreCallPins children r
