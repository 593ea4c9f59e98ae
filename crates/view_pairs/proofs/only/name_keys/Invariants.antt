use Rattle.std.proofs.Common.{length}
use Rattle.view_pairs.specs.Only.{is_given}
use Rattle.view_pairs.proofs.Keying.{KeysSoFar}
use Rattle.view_pairs.proofs.only.name_keys.Given as goal

abbrev pub invariant-names : goal.invariant-names
invariant-names l = KeysSoFar is_given l.initial.table l.table l.names l.rest l.keys.items

abbrev pub decreases-names : goal.decreases-names
decreases-names l = length l.rest
