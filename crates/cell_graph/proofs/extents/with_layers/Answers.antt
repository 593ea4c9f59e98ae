use Rattle.std.proofs.Common.{◌≡◌, Some, slice_get, get_or, arith, sym, ap, ◌∙◌}
use Rattle.std.proofs.lemmas.Option.{slice_get-get_or}
use Rattle.cell_graph.specs.declared.cells.OwnLayer.{OwnLayer}
use Rattle.cell_graph.specs.Drafts.{IsCorner}
use Rattle.cell_graph.specs.Sides.{Among}
use Rattle.cell_graph.proofs.Widening.{all_items}
use Rattle.cell_graph.proofs.Extending.{no_layer, next_layer}
use Rattle.cell_graph.proofs.extents.with_layers.Goals as goal

pub loop-layer-init : goal.loop-layer-init
loop-layer-init c = no_layer c.args.layers.now c.args.bounds

pub loop-layer-preserved : goal.loop-layer-preserved
loop-layer-preserved c =
    let items = c.args.layers.now in
    let n = c.loop-layer.layer-index in
    let l = c.layer-item.result in
    let there : slice_get items n ≡ Some l = slice_get-get_or items n l c.loop-layer-test.true ∙ ap Some (sym c.layer-item.is) in
    next_layer items n l c.rects.result.now c.args.bounds c.loop-layer.all c.with_rects-all.result there c.rects.ensures.list c.rects.ensures.sound c.with_rects-all.ensures c.loop-layer.invariant

pub returns-clause-widens : goal.returns-clause-widens
returns-clause-widens c = all_items (λ (l : OwnLayer). Among IsCorner l.set) c.args.layers.now c.loop-layer.layer-index c.args.bounds c.loop-layer.all c.loop-layer-test.false c.loop-layer.invariant.widens

pub returns-clause-rects : goal.returns-clause-rects
returns-clause-rects c k d lt = let le = c.loop-layer-test.false in c.loop-layer.invariant.rects k (get_or c.args.layers.now k d) (omega arith) (slice_get-get_or c.args.layers.now k d lt)
