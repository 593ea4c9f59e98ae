use Rattle.std.proofs.Common.{take}
use Rattle.rect_sets.specs.Levels.{AreGrown}
use Rattle.rect_sets.proofs.levels.grow_all.Given as goal

abbrev pub invariant-loop-rect : goal.invariant-loop-rect
invariant-loop-rect l = AreGrown l.above (take l.rect-index l.below) l.out.items
