use Rattle.std.proofs.Common.{◌≡◌, ◌++◌, ◌+◌, length}
use Rattle.view_cross.specs.Matched.{partner_rows}
use Rattle.view_cross.proofs.matched.push_partners.Given as goal

abbrev pub invariant-nodes : goal.invariant-nodes
invariant-nodes l =
    (l.out.items ++ partner_rows l.kind l.k l.rest ≡ l.initial.out.items ++ partner_rows l.kind 0 l.rights)
    × (l.k + length l.rest ≡ length l.rights)

abbrev pub decreases-nodes : goal.decreases-nodes
decreases-nodes l = length l.rest
