use Rattle.std.proofs.Common.{◌≡◌, ◌↔◌, true, take}
use Rattle.std.specs.List.{All}
use Rattle.geo_base.specs.Rects.{IsRect}
use Rattle.geo_base.specs.declared.shapes.Square.{Square}
use Rattle.rect_sets.specs.Rects.{covers}
use Rattle.flat_layout.specs.Layout.{InFlatInput}
use Rattle.cell_graph.specs.Linked.{plain}
use Rattle.cell_context.proofs.flats.collect_in.Given as goal

abbrev pub invariant-loop-rect : goal.invariant-loop-rect
invariant-loop-rect l = record {
  rects : All IsRect l.out.items;
  exact : (q : Square) → (covers l.out.items q ≡ true) ↔ ((covers (take l.rect-index l.rect-items) q ≡ true) × InFlatInput (plain l.design) l.cell l.key q);
}
