use Rattle.std.proofs.Common.{◌≡◌, Some, slice_get, sym, ap, ◌∙◌}
use Rattle.std.proofs.lemmas.Option.{slice_get-get_or}
use Rattle.geo_base.specs.declared.shapes.Point.{Point}
use Rattle.cell_graph.specs.declared.cells.RawText.{RawText}
use Rattle.cell_graph.proofs.Widening.{no_item, next_item, all_items, widens_with, same_points}
use Rattle.cell_graph.proofs.extents.with_texts.Goals as goal

abbrev IsAt : RawText → Point → Type 0
IsAt t p = t.at ≡ p

pub loop-text-init : goal.loop-text-init
loop-text-init c = no_item IsAt c.args.texts.now c.args.bounds

pub loop-text-preserved : goal.loop-text-preserved
loop-text-preserved c =
    let items = c.args.texts.now in
    let n = c.loop-text.text-index in
    let t = c.text-item.result in
    let there : slice_get items n ≡ Some t = slice_get-get_or items n t c.loop-text-test.true ∙ ap Some (sym c.text-item.is) in
    let h = widens_with c.loop-text.all t.at c.with_point.result c.with_point.ensures in
    next_item IsAt items n t c.args.bounds c.loop-text.all (Some c.with_point.result) there c.loop-text.invariant
    (same_points c.loop-text.all (Some c.with_point.result) (λ q. q ≡ t.at) (IsAt t) (λ p e. sym e) (λ p e. sym e) h)

pub returns : goal.returns
returns c = all_items IsAt c.args.texts.now c.loop-text.text-index c.args.bounds c.loop-text.all c.loop-text-test.false c.loop-text.invariant
