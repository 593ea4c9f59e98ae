use Rattle.net_walk.proofs.leaders.push_followers.Given as goal
use Rattle.net_walk.specs.Leaders.{IsFollower}
use Rattle.touching_pieces.specs.Pairs.{AddsLinks}

abbrev pub invariant-loop-k : goal.invariant-loop-k
invariant-loop-k l = AddsLinks (IsFollower l.leaders l.k) l.fn.out.items l.out.items
