use Rattle.std.proofs.Common.{length}
use Rattle.std.specs.List.{AllByRecursion}
use Rattle.netlist_file.specs.Spelled.{IsByteName}
use Rattle.netlist_file.proofs.laws.spelling.names_spelled.Given as goal

abbrev pub invariant-names : goal.invariant-names
invariant-names l = AllByRecursion IsByteName l.rest → AllByRecursion IsByteName l.names

abbrev pub decreases-names : goal.decreases-names
decreases-names l = length l.rest
