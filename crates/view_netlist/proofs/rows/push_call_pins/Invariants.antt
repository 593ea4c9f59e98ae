use Rattle.std.proofs.Common.{◌≡◌, ◌++◌, ◌+◌, length}
use Rattle.view_netlist.specs.Rows.{call_pin_texts}
use Rattle.view_netlist.proofs.rows.push_call_pins.Given as goal

abbrev pub invariant-pins : goal.invariant-pins
invariant-pins l =
    (l.out.items ++ call_pin_texts l.k l.rest ≡ l.initial.out.items ++ call_pin_texts 0 l.nets)
    × (l.k + length l.rest ≡ length l.nets)

abbrev pub decreases-pins : goal.decreases-pins
decreases-pins l = length l.rest
