use Rattle.std.proofs.Common.{◌≡◌, ◌⊎◌, ℕ, ◌<◌, true, slice_index_or}
use Rattle.std.specs.List.{All}
use Rattle.geo_base.specs.Rects.{has}
use Rattle.geo_base.specs.Motions.{moved_square}
use Rattle.geo_base.specs.declared.shapes.Square.{Square}
use Rattle.rect_sets.specs.Rects.{covers}
use Rattle.flat_layout.specs.Layout.{InFlatInput}
use Rattle.cell_graph.specs.Linked.{plain}
use Rattle.cell_context.specs.Over.{IsPiece}
use Rattle.cell_context.proofs.Gathering.{no_visit}
use Rattle.zone_phase.specs.Siblings.{IsBroughtTo}
use Rattle.zone_phase.proofs.siblings.push_brought.Given as goal

abbrev pub invariant-loop-visit : goal.invariant-loop-visit
invariant-loop-visit l = record {
  pieces : All (IsPiece l.window) l.there.items;
  right : (s : Square) → covers l.there.items s ≡ true → (covers l.fn.there.items s ≡ true) ⊎ ((has l.window s ≡ true) × IsBroughtTo l.design l.other l.key s);
  old : (s : Square) → covers l.fn.there.items s ≡ true → covers l.there.items s ≡ true;
  found : (k : ℕ) → k < l.visit-index → (r : Square) → has (slice_index_or l.visit-items k no_visit).window r ≡ true → InFlatInput (plain l.design) l.other.cell l.key r
      → has l.window (moved_square (slice_index_or l.visit-items k no_visit).motion r) ≡ true → covers l.there.items (moved_square (slice_index_or l.visit-items k no_visit).motion r) ≡ true;
}
