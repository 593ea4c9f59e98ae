use Rattle.std.proofs.Common.{◌≡◌, ◌++◌, length}
use Rattle.std.specs.List.{filter}
use Rattle.net_model.specs.Rows.{plain_circuit}
use Rattle.view_pairs.specs.Proposals.{is_alike_couple}
use Rattle.view_pairs.proofs.couples.alike_couples.Given as goal

abbrev pub invariant-couples : goal.invariant-couples
invariant-couples l =
    l.found.items ++ filter (is_alike_couple (plain_circuit l.sides.left.now) (plain_circuit l.sides.right.now) l.nets l.kind) l.rest
    ≡ filter (is_alike_couple (plain_circuit l.sides.left.now) (plain_circuit l.sides.right.now) l.nets l.kind) l.couples

abbrev pub decreases-couples : goal.decreases-couples
decreases-couples l = length l.rest
