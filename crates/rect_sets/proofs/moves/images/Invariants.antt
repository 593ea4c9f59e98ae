use Rattle.std.proofs.Common.{◌≡◌, take}
use Rattle.std.specs.List.{All}
use Rattle.geo_base.specs.Rects.{IsRect}
use Rattle.geo_base.specs.Motions.{moved_square}
use Rattle.geo_base.specs.declared.shapes.Square.{Square}
use Rattle.rect_sets.specs.Rects.{covers}
use Rattle.rect_sets.proofs.moves.images.Given as goal

abbrev pub invariant-loop-rect : goal.invariant-loop-rect
invariant-loop-rect l = record {
  rects : All IsRect l.out.items;
  same : (s : Square) → covers l.out.items (moved_square l.m s) ≡ covers (take l.rect-index l.rects) s;
}
