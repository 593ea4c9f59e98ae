use Rattle.std.proofs.Common.{◌≡◌, length}
use Rattle.pair_turns.specs.Alone.{greater, longest}
use Rattle.pair_turns.proofs.alone.longest_name_of.Given as goal

abbrev pub invariant-names : goal.invariant-names
invariant-names l = greater (longest l.rest) l.most ≡ greater (longest l.names) l.fn.most

abbrev pub decreases-names : goal.decreases-names
decreases-names l = length l.rest
