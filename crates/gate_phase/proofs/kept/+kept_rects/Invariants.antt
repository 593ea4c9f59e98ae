use Rattle.std.proofs.Common.{◌≡◌, ℕ, ◌<◌, true, Some, List, slice_index_or}
use Rattle.std.specs.List.{All}
use Rattle.geo_base.specs.Rects.{has}
use Rattle.geo_base.specs.declared.shapes.Rect.{Rect}
use Rattle.geo_base.specs.declared.shapes.Square.{Square}
use Rattle.rect_sets.specs.Rects.{covers}
use Rattle.flat_layout.specs.Layers.{Formula}
use Rattle.cell_graph.specs.Linked.{height_at, plain}
use Rattle.cell_context.specs.Over.{IsPiece}
use Rattle.cell_context.proofs.Gathering.{no_visit}
use Rattle.deep_tables.specs.Layers.{layer_of}
use Rattle.gate_phase.specs.Kept.{HasLocals}
use Rattle.gate_phase.proofs.Keeping.{AreKept, Brings}
use Rattle.gate_phase.proofs.kept.+kept_rects.Given as goal

abbrev pub decreases-kept_rects : goal.decreases-kept_rects
decreases-kept_rects l = height_at l.design.now l.cell

abbrev pub invariant-loop-visit : goal.invariant-loop-visit
invariant-loop-visit l = record {
  pieces : All (IsPiece l.frame) l.out.items;
  sound : (x : Formula) → HasLocals (plain l.design) l.layers l.name x → AreKept l.design l.cell x l.out.items;
  own : (layer : List Rect) (q : Square) → layer_of l.layers.table l.cell l.name ≡ Some layer → covers layer q ≡ true → has l.window q ≡ true → covers l.out.items q ≡ true;
  found : (x : Formula) → HasLocals (plain l.design) l.layers l.name x → (k : ℕ) → k < l.visit-index → Brings l.design x l.window l.out.items (slice_index_or l.visit-items k no_visit);
}
