use Rattle.std.proofs.Common.{◌≡◌, ◌++◌, length}
use Rattle.report_file.specs.Turns.{others}
use Rattle.report_file.proofs.turns.others.Given as goal

abbrev pub invariant-names : goal.invariant-names
invariant-names l = l.kept.items ++ others l.name l.rest ≡ others l.name l.names

abbrev pub decreases-names : goal.decreases-names
decreases-names l = length l.rest
