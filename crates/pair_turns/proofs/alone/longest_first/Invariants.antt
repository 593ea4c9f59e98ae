use Rattle.std.proofs.Common.{◌≡◌, length}
use Rattle.pair_turns.specs.Alone.{first_names, greater, longest}
use Rattle.pair_turns.proofs.alone.longest_first.Given as goal

abbrev pub invariant-lines : goal.invariant-lines
invariant-lines l = greater (longest (first_names l.rest)) l.most ≡ greater (longest (first_names l.same)) l.fn.most

abbrev pub decreases-lines : goal.decreases-lines
decreases-lines l = length l.rest
