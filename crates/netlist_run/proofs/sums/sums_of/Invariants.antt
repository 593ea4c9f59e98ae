use Rattle.std.proofs.Common.{◌≡◌, map, length}
use Rattle.netlist_turn.specs.Seen.{told_seen}
use Rattle.netlist_run.specs.SumsSeen.{seen}
use Rattle.netlist_run.specs.Sums.{no_sums, sums_from}
use Rattle.netlist_run.proofs.sums.sums_of.Given as goal

abbrev pub invariant-changes : goal.invariant-changes
invariant-changes l =
    sums_from l.files l.origins (seen l.sums) (map told_seen l.rest) ≡ sums_from l.files l.origins no_sums (map told_seen l.told)

abbrev pub decreases-changes : goal.decreases-changes
decreases-changes l = length l.rest
