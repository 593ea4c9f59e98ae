use Rattle.std.proofs.Common.{◌≡◌, ◌++◌}
use Rattle.deep_flow.proofs.Moved.{moved}
use Rattle.deep_flow.proofs.netlist.netlist.Given as goal

abbrev pub invariant-loop-value : goal.invariant-loop-value
invariant-loop-value l = moved l.fn.values.items ≡ l.circuits.items ++ moved l.value-iterator.rest.items
