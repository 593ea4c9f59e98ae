use Rattle.std.proofs.Common.{◌≡◌, take}
use Rattle.sized_layers.specs.Sizes.{sized_rects}
use Rattle.sized_layers.proofs.sizes.sized_rects.Given as goal

abbrev pub invariant-loop-rect : goal.invariant-loop-rect
invariant-loop-rect l = l.out.items ≡ sized_rects l.d (take l.rect-index l.rects)
