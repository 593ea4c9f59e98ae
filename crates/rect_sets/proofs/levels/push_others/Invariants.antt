use Rattle.std.proofs.Common.{take}
use Rattle.rect_sets.specs.Levels.{AddsOthers}
use Rattle.rect_sets.proofs.levels.push_others.Given as goal

abbrev pub invariant-loop-rect : goal.invariant-loop-rect
invariant-loop-rect l = AddsOthers l.below (take l.rect-index l.above) l.fn.out.items l.out.items
