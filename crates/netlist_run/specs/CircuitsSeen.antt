-- What the code's records are.
use Rattle.call_order.specs.Order.{lists}
use Rattle.netlist_run.specs.Circuits as spec
use Rattle.netlist_run.specs.declared.circuits.Circuits.{Circuits}

abbrev pub circuits_seen : Circuits → spec.Circuits
circuits_seen c = record {
  names = c.names;
  calls = lists c.calls.items;
  begun = c.begun.items;
  inside = c.inside;
}
