use Rattle.std.proofs.Common.{◌≡◌, ◌++◌, length}
use Rattle.view_netlist.specs.Rows.{pin_texts}
use Rattle.view_netlist.proofs.rows.push_pins.Given as goal

abbrev pub invariant-pins : goal.invariant-pins
invariant-pins l = l.out.items ++ pin_texts l.names l.rest ≡ l.initial.out.items ++ pin_texts l.names l.pins

abbrev pub decreases-pins : goal.decreases-pins
decreases-pins l = length l.rest
