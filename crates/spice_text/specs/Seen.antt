-- What the code's records are.
use Rattle.std.specs.Prelude.{◌≡◌, map, Option, Some, None, Result, Err}
use Rattle.spice_rows.specs.Seen.{call_seen}
use Rattle.spice_rows.specs.declared.fault.SpiceFault.{SpiceFault}
use Rattle.spice_rows.specs.declared.fault.SpiceFault.TheVariants.{NoMemory}
use Rattle.spice_text.specs.Gather.{Circuit, Cards}
use Rattle.spice_text.specs.declared.gather.CircuitCards.{CircuitCards}
use Rattle.spice_text.specs.declared.gather.Gathered.{Gathered}

abbrev pub circuit_seen : CircuitCards → Circuit
circuit_seen g = record {
  line = g.line;
  name = g.name;
  pins = g.pins.items;
  devices = g.devices.items;
  calls = map call_seen g.calls.items;
}

abbrev pub some_circuit : Option CircuitCards → Option Circuit
some_circuit None = None
some_circuit (Some g) = Some (circuit_seen g)

abbrev pub cards_seen : Gathered → Cards
cards_seen g = record {
  circuits = map circuit_seen g.circuits.items;
  open_one = some_circuit g.open_one;
  outside = some_circuit g.outside;
  globals = g.globals.items;
}

-- the answer is this fault, or that there is no memory
abbrev pub SaysFault : SpiceFault → Result Cards SpiceFault → Type 0
SaysFault NoMemory read = Unit {0}
SaysFault e read = read ≡ Err e
