use Rattle.std.proofs.Common.{◌≡◌, length}
use Rattle.netlist_join.specs.Directives.{without_blanks}
use Rattle.netlist_join.proofs.directive.skip_blanks.Given as goal

abbrev pub invariant-blanks : goal.invariant-blanks
invariant-blanks l = without_blanks l.rest ≡ without_blanks l.bytes

abbrev pub decreases-blanks : goal.decreases-blanks
decreases-blanks l = length l.rest
