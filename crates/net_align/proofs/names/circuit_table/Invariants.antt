use Rattle.std.proofs.Common.{◌≡◌, take, map}
use Rattle.net_names.specs.Folding.{folded_bytes}
use Rattle.net_model.specs.declared.netlist.Circuit.{Circuit}
use Rattle.net_align.proofs.names.circuit_table.Given as goal

abbrev pub invariant-loop-circuit : goal.invariant-loop-circuit
invariant-loop-circuit l = l.table ≡ map (λ (c : Circuit). folded_bytes c.name) (take l.circuit-index l.circuit-items)
