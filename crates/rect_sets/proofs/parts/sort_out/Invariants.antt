use Rattle.std.proofs.Common.{◌≡◌, ◌++◌, take}
use Rattle.rect_sets.specs.Divided.{kept, cut_off}
use Rattle.rect_sets.proofs.parts.sort_out.Given as goal

abbrev pub invariant-loop-rect : goal.invariant-loop-rect
invariant-loop-rect l = record { done : l.done.items ≡ l.fn.done.items ++ kept l.cut (take l.rect-index l.rects); rest : l.rest.items ≡ l.fn.rest.items ++ cut_off l.cut (take l.rect-index l.rects) }
