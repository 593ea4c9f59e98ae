use Rattle.std.proofs.Common.{◌≡◌, take}
use Rattle.rect_sets.specs.Moves.{shifted}
use Rattle.rect_sets.proofs.moves.shifted.Given as goal

abbrev pub invariant-loop-rect : goal.invariant-loop-rect
invariant-loop-rect l = l.out.items ≡ shifted l.m.dx l.m.dy (take l.rect-index l.rects)
