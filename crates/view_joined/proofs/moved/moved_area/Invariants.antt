use Rattle.std.proofs.Common.{◌≡◌, ◌++◌, drop, map}
use Rattle.geo_base.specs.Rects.{moved_rect}
use Rattle.view_joined.specs.Moved.{placed_rect}
use Rattle.view_joined.proofs.moved.moved_area.Given as goal

abbrev pub invariant-rects : goal.invariant-rects
invariant-rects l =
    l.out.items ++ map (λ r. moved_rect l.motion (placed_rect l.at r)) (drop l.k l.rects) ≡ map (λ r. moved_rect l.motion (placed_rect l.at r)) l.rects
