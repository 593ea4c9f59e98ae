use Rattle.std.proofs.Common.{◌≡◌, take, map}
use Rattle.gate_shapes.specs.Borders.{grown_rect}
use Rattle.gate_shapes.proofs.border.grown.Given as goal

abbrev pub invariant-loop-rect : goal.invariant-loop-rect
invariant-loop-rect l = l.out.items ≡ map grown_rect (take l.rect-index l.rects)
