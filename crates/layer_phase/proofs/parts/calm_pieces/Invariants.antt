use Rattle.std.proofs.Common.{◌≡◌, ℕ, ◌<◌, true, slice_index_or}
use Rattle.std.specs.List.{All}
use Rattle.geo_base.specs.Rects.{has}
use Rattle.geo_base.specs.declared.shapes.Square.{Square}
use Rattle.rect_sets.specs.Rects.{covers}
use Rattle.cell_context.specs.Over.{IsPiece}
use Rattle.cell_context.proofs.Gathering.{no_visit}
use Rattle.layer_phase.specs.Keeps.{IsKeptBy}
use Rattle.layer_phase.proofs.Keeping.{BringsCalm}
use Rattle.layer_phase.proofs.parts.calm_pieces.Given as goal

abbrev pub invariant-loop-visit : goal.invariant-loop-visit
invariant-loop-visit l = record {
  pieces : All (IsPiece l.window) l.out.items;
  right : (q : Square) → covers l.out.items q ≡ true → (has l.window q ≡ true) × IsKeptBy l.reach l.work.design.now l.work.zones.now l.work.cell l.name q;
  found : (k : ℕ) → k < l.visit-index → BringsCalm l.reach l.work.zones.now l.name l.window l.out.items (slice_index_or l.visit-items k no_visit);
}
