use Rattle.std.proofs.Common.{◌≡◌, take}
use Rattle.rect_sets.specs.Moves.{meeting}
use Rattle.rect_sets.proofs.moves.meeting.Given as goal

abbrev pub invariant-loop-rect : goal.invariant-loop-rect
invariant-loop-rect l = l.out.items ≡ meeting l.w (take l.rect-index l.rects)
