-- Netlists as plain records.
use Rattle.std.specs.Prelude.{ℕ, List, [], ◌∷◌, map, slice_index}
use Rattle.fixed_num.specs.declared.femto.Femto.{Femto}
use Rattle.plain_netlist.specs.declared.kinds.DeviceKind.{DeviceKind}
use Rattle.plain_netlist.specs.declared.kinds.DeviceKind.TheVariants.{Mos4, ResistorWithBulk, Diode}
use Rattle.plain_netlist.specs.Devices.{Ends, NoEnds, Both}
use Rattle.plain_netlist.specs.Netlist.{DeviceRow as PlainDevice, CallRow as PlainCall}
use Rattle.plain_netlist.specs.Netlist.{Circuit as PlainCircuit, Netlist as PlainNetlist}
use Rattle.net_model.specs.declared.netlist.DeviceRow.{DeviceRow}
use Rattle.net_model.specs.declared.netlist.CallRow.{CallRow}
use Rattle.net_model.specs.declared.netlist.Circuit.{Circuit}
use Rattle.net_model.specs.declared.netlist.Netlist.{Netlist}

-- the terminals of a kind among the nets of a device: what its ends and the others are
abbrev pub ends_in : DeviceKind → List ℕ → Ends ℕ
ends_in Mos4 nets = Both (slice_index nets 2) (slice_index nets 0)
ends_in ResistorWithBulk nets = Both (slice_index nets 2) (slice_index nets 0)
ends_in Diode nets = NoEnds

abbrev pub others_in : DeviceKind → List ℕ → List ℕ
others_in Mos4 nets = slice_index nets 1 ∷ slice_index nets 3 ∷ []
others_in ResistorWithBulk nets = slice_index nets 1 ∷ []
others_in Diode nets = slice_index nets 0 ∷ slice_index nets 1 ∷ []

abbrev pub plain_device : DeviceRow → PlainDevice
plain_device d = record {
  kind = d.kind;
  class = d.class;
  sizes = map (λ (f : Femto). f.0) d.sizes;
  ends = ends_in d.kind d.nets;
  others = others_in d.kind d.nets;
}

abbrev pub plain_call : CallRow → PlainCall
plain_call c = record { circuit = c.circuit; nets = c.nets.items }

abbrev pub plain_circuit : Circuit → PlainCircuit
plain_circuit c = record {
  name = c.name;
  nets = c.nets.items;
  pins = c.pins.items;
  devices = map plain_device c.devices.items;
  calls = map plain_call c.calls.items;
}

abbrev pub plain_netlist : Netlist → PlainNetlist
plain_netlist n = record { circuits = map plain_circuit n.circuits.items }
