use Rattle.std.proofs.Common.{◌≡◌, length}
use Rattle.view_pairs.specs.Only.{is_given}
use Rattle.view_pairs.proofs.only.is_given.Given as goal

abbrev pub invariant-bytes : goal.invariant-bytes
invariant-bytes l = is_given l.name ≡ is_given l.rest

abbrev pub decreases-bytes : goal.decreases-bytes
decreases-bytes l = length l.rest
