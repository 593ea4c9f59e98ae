use Rattle.std.proofs.Common.{length, map}
use Rattle.std.specs.List.{AllByRecursion}
use Rattle.net_model.specs.Rows.{plain_circuit}
use Rattle.netlist_file.specs.Spelled.{IsSpelledCircuit}
use Rattle.netlist_file.proofs.laws.spelling.spelled.Given as goal

abbrev pub invariant-circuits : goal.invariant-circuits
invariant-circuits l = AllByRecursion IsSpelledCircuit (map plain_circuit l.rest) → AllByRecursion IsSpelledCircuit (map plain_circuit l.netlist.circuits.items)

abbrev pub decreases-circuits : goal.decreases-circuits
decreases-circuits l = length l.rest
