-- Circuits that can be compared.
use Rattle.std.specs.Prelude.{◌≡◌, ◌<◌, ℕ, List, Option, Some, length, slice_get}
use Rattle.plain_netlist.specs.Netlist.{DeviceRow, CallRow, Circuit as PlainCircuit}
use Rattle.match_parts.specs.Rows.{AreBelow, AreCallPins, AreCallsOn, AreDevicesOn, ArePinsOf}
use Rattle.match_parts.specs.Rows.{AreTerminalsBelow}
use Rattle.net_model.specs.Rows.{plain_circuit}
use Rattle.net_model.specs.declared.netlist.Circuit.{Circuit}

-- the first n devices stand on nets
abbrev pub AreDevicesFit : Circuit → ℕ → Type 0
AreDevicesFit c n = (k : ℕ) (d : DeviceRow) → k < n → slice_get (plain_circuit c).devices k ≡ Some d
    → AreTerminalsBelow d (length c.nets.items)

-- the first n calls stand on nets, and the lists of their pairs are one to one
abbrev pub AreCallsFit : Circuit → (ℕ → Option (List ℕ)) → ℕ → Type 0
AreCallsFit c children n = (k : ℕ) (r : CallRow) → k < n
    → slice_get (plain_circuit c).calls k ≡ Some r
    → AreBelow r.nets (length c.nets.items) × AreCallPins children r

-- so do all
pub record IsFit (c : PlainCircuit) (children : ℕ → Option (List ℕ)) : Type 0 where
  pub devices : AreDevicesOn c (length c.nets)
  pub calls : AreCallsOn c (length c.nets)
  pub pins : ArePinsOf c children
