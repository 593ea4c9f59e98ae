use Rattle.std.proofs.Common.{take}
use Rattle.net_walk.proofs.seen.push_seen.Given as goal
use Rattle.net_walk.specs.Seen.{AddsSeen, IsSeenOf}

abbrev pub invariant-loop-piece : goal.invariant-loop-piece
invariant-loop-piece l = AddsSeen (IsSeenOf l.motion (take l.piece-index l.pieces) l.conductor l.at) l.fn.out.items l.out.items
