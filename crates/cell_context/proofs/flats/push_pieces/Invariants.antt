use Rattle.std.proofs.Common.{◌≡◌, ◌||◌, ◌&&◌, take}
use Rattle.std.specs.List.{All}
use Rattle.geo_base.specs.Rects.{has}
use Rattle.geo_base.specs.declared.shapes.Square.{Square}
use Rattle.rect_sets.specs.Rects.{covers}
use Rattle.cell_context.specs.Over.{IsPiece}
use Rattle.cell_context.proofs.Near.{chosen}
use Rattle.cell_context.proofs.flats.push_pieces.Given as goal

abbrev pub invariant-loop-i : goal.invariant-loop-i
invariant-loop-i l = record {
  pieces : All (IsPiece l.window) l.out.items;
  covers : (q : Square) → covers l.out.items q ≡ (covers l.fn.out.items q || (covers (chosen l.rects (take l.i-index l.near)) q && has l.window q));
}
