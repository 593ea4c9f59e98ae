use Rattle.std.proofs.Common.{◌≡◌, ◌++◌, ◌+◌, length}
use Rattle.view_pairs.specs.Keys.{couples_from}
use Rattle.view_pairs.proofs.only.push_couples.Given as goal

abbrev pub invariant-keys : goal.invariant-keys
invariant-keys l =
    (l.out.items ++ couples_from l.places l.k l.rest ≡ l.initial.out.items ++ couples_from l.places 0 l.keys)
    × (l.k + length l.rest ≡ length l.keys)

abbrev pub decreases-keys : goal.decreases-keys
decreases-keys l = length l.rest
