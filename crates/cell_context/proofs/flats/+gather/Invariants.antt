use Rattle.std.proofs.Common.{◌≡◌, ℕ, ◌<◌, true, slice_index_or}
use Rattle.std.specs.List.{All}
use Rattle.geo_base.specs.Rects.{has}
use Rattle.geo_base.specs.declared.shapes.Square.{Square}
use Rattle.rect_sets.specs.Rects.{covers}
use Rattle.cell_graph.specs.Linked.{own_of, cell_at, height_at}
use Rattle.cell_context.specs.Over.{IsPiece}
use Rattle.cell_context.proofs.Gathering.{AreRight, Brings, no_visit}
use Rattle.cell_context.proofs.flats.+gather.Given as goal

abbrev pub decreases-gather : goal.decreases-gather
decreases-gather l = height_at l.design.now l.cell

abbrev pub invariant-loop-visit : goal.invariant-loop-visit
invariant-loop-visit l = record {
  pieces : All (IsPiece l.window) l.out.items;
  right : AreRight l.design l.cell l.fn.skip l.key l.window l.out.items;
  own : (q : Square) → covers (own_of (cell_at l.design l.cell) l.key) q ≡ true → has l.window q ≡ true → covers l.out.items q ≡ true;
  found : (k : ℕ) → k < l.visit-index → Brings l.design l.key l.window l.out.items (slice_index_or l.visit-items k no_visit);
}
