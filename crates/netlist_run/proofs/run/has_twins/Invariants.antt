use Rattle.std.proofs.Common.{◌≡◌, length, map}
use Rattle.std.specs.Prelude.{string_bytes}
use Rattle.netlist_join.specs.Loaded.{has_twins}
use Rattle.netlist_run.proofs.run.has_twins.Given as goal

abbrev pub invariant-paths : goal.invariant-paths
invariant-paths l = has_twins (map string_bytes l.rest) ≡ has_twins (map string_bytes l.paths)

abbrev pub decreases-paths : goal.decreases-paths
decreases-paths l = length l.rest
