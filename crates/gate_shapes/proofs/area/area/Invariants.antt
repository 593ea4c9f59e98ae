use Rattle.std.proofs.Common.{◌≡◌, take}
use Rattle.gate_shapes.specs.Sets.{area}
use Rattle.gate_shapes.proofs.area.area.Given as goal

abbrev pub invariant-loop-rect : goal.invariant-loop-rect
invariant-loop-rect l = l.sum ≡ area (take l.rect-index l.rects)
