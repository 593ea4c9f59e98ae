use Rattle.std.proofs.Common.{◌≡◌, ◌||◌, ◌∷◌, drop}
use Rattle.std.specs.List.{All}
use Rattle.geo_base.specs.declared.shapes.Square.{Square}
use Rattle.geo_base.specs.Near.{IsLong, IsLongPoint}
use Rattle.geo_base.specs.Rects.{IsRect}
use Rattle.rect_sets.specs.Rects.{covers}
use Rattle.poly_fill.specs.Fills.{segments}
use Rattle.poly_fill.proofs.path.segment_rects.Given as goal

abbrev pub invariant-loop-i : goal.invariant-loop-i
invariant-loop-i l = record {
  sound : All IsRect l.rects.items;
  from : IsLongPoint l.from;
  before : IsLong l.before;
  covers : (s : Square) → (covers l.rects.items s || covers (segments l.half l.before l.end (l.from ∷ drop l.i l.rest)) s) ≡ covers (segments l.half l.begin l.end l.points) s;
}
