use Rattle.std.proofs.Common.{◌≡◌, ◌++◌, take}
use Rattle.net_walk.proofs.own.push_rects.Given as goal
use Rattle.net_walk.specs.Owned.{IsOfRects, rect_pieces}
use Rattle.net_walk.specs.Seen.{AddsSeen}

abbrev pub invariant-loop-r : goal.invariant-loop-r
invariant-loop-r l = record {
  seen : AddsSeen (IsOfRects l.own l.conductor l.at l.r) l.fn.out.items l.out.items;
  list : l.out.items ≡ l.fn.out.items ++ rect_pieces l.conductor l.at (take l.r l.own);
}
