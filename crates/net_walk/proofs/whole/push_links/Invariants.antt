use Rattle.net_walk.proofs.Wholes.{IsFirstLink}
use Rattle.net_walk.proofs.whole.push_links.Given as goal
use Rattle.touching_pieces.specs.Pairs.{AddsLinks}

abbrev pub invariant-loop-net : goal.invariant-loop-net
invariant-loop-net l = AddsLinks (IsFirstLink l.item l.nets l.net-index l.at) l.fn.out.items l.out.items
