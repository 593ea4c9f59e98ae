use Rattle.std.proofs.Common.{◌≡◌, ◌++◌, ◌+◌, length}
use Rattle.view_pairs.specs.Only.{in_order}
use Rattle.view_pairs.proofs.wanted.in_order.Given as goal

abbrev pub invariant-rights : goal.invariant-rights
invariant-rights l =
    (l.couples.items ++ in_order l.left l.rest ≡ in_order 0 l.rights)
    × (l.left + length l.rest ≡ length l.rights)

abbrev pub decreases-rights : goal.decreases-rights
decreases-rights l = length l.rest
