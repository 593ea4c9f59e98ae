use Rattle.std.proofs.Common.{◌≡◌, length}
use Rattle.pair_turns.specs.Alone.{second_names, greater, longest}
use Rattle.pair_turns.proofs.alone.longest_second.Given as goal

abbrev pub invariant-lines : goal.invariant-lines
invariant-lines l = greater (longest (second_names l.rest)) l.most ≡ greater (longest (second_names l.same)) l.fn.most

abbrev pub decreases-lines : goal.decreases-lines
decreases-lines l = length l.rest
