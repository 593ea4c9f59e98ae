use Rattle.std.proofs.Common.{◌≡◌, ◌++◌, length, map}
use Rattle.net_model.specs.Rows.{plain_circuit, plain_netlist}
use Rattle.plain_netlist.specs.Netlist.{Circuit}
use Rattle.view_run.specs.Views.{names_of}
use Rattle.view_run.proofs.drawing.circuit_names.Given as goal

abbrev pub invariant-circuits : goal.invariant-circuits
invariant-circuits l = l.names.items ++ map (λ (c : Circuit). c.name) (map plain_circuit l.rest) ≡ names_of (plain_netlist l.netlist)

abbrev pub decreases-circuits : goal.decreases-circuits
decreases-circuits l = length l.rest
