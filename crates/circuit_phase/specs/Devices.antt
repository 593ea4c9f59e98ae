-- Devices of good gates.
use Rattle.std.specs.Prelude.{◌≡◌, ℕ, List, [], ◌∷◌, ◌++◌, length, flat_map}
use Rattle.flat_layout.specs.Circuits.{IsDeviceOfGate}
use Rattle.flat_layout.specs.Gates.{Rule}
use Rattle.flat_layout.specs.GateTables.{GateEntry, GateRow, GoodGate, good_gates}
use Rattle.net_model.specs.Rows.{ends_in, others_in}
use Rattle.plain_netlist.specs.declared.kinds.DeviceKind.{DeviceKind}
use Rattle.plain_netlist.specs.Netlist.{DeviceRow}
use Rattle.plain_netlist.specs.Devices.{terminal_nets}
use Rattle.plain_netlist.specs.Normal.{AreNumbered}
use Rattle.circuit_phase.specs.Numbering.{AreKept}

-- a good gate of this kind, twice its width and its length in squares, its terminals on these nets
-- in the order of a netlist's text
abbrev pub gate_row : DeviceKind → ℕ → ℕ → List ℕ → GateRow
gate_row kind twice_w twice_l nets = record {
  kind = kind;
  twice_w = twice_w;
  twice_l = twice_l;
  ends = ends_in kind nets;
  others = others_in kind nets;
}

-- each gate's device, in order
abbrev pub AreDevicesOf : List Rule → ℕ → List ℕ → List GoodGate → List DeviceRow → Type 0
AreDevicesOf rules unit nets [] [] = Unit {0}
AreDevicesOf rules unit nets [] (row ∷ rows) = ⊥
AreDevicesOf rules unit nets (gate ∷ gates) [] = ⊥
AreDevicesOf rules unit nets (gate ∷ gates) (row ∷ rows) =
    IsDeviceOfGate rules unit nets gate row × AreDevicesOf rules unit nets gates rows

-- the devices of the good ones of these gates were added, over nets that were numbered on
pub record AddDevices (rules : List Rule) (unit : ℕ) (gates : List GateEntry)
    (old new : List ℕ) (before after : List DeviceRow) : Type 0 where
  pub kept : AreKept old new
  pub added : List DeviceRow
  pub rows : after ≡ before ++ added
  pub devices : AreDevicesOf rules unit new (good_gates gates) added
  pub numbered : AreNumbered (length new) (length old) (flat_map terminal_nets added)
