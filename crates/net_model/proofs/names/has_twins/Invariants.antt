use Rattle.std.proofs.Common.{◌≡◌, [], length}
use Rattle.net_model.specs.Tests.{has_twins}
use Rattle.net_model.proofs.names.has_twins.Given as goal

abbrev pub invariant-names : goal.invariant-names
invariant-names l = has_twins l.seen l.rest ≡ has_twins [] l.names

abbrev pub decreases-names : goal.decreases-names
decreases-names l = length l.rest
