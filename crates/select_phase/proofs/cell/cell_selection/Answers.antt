use Rattle.std.proofs.Common.{◌≤◌, List, Some, length, refl, sym, ◌∙◌, ap, subst}
use Rattle.geo_base.specs.declared.shapes.Rect.{Rect}
use Rattle.cell_context.proofs.Collecting.{item_at}
use Rattle.gate_phase.specs.Site.{layout_at}
use Rattle.select_phase.specs.Selections.{meant_at}
use Rattle.select_phase.proofs.Readiness.{squares_parted}
use Rattle.select_phase.proofs.SortedParts.{AreSortedTo, cell_found, part_at, sorted_more}
use Rattle.select_phase.proofs.cell.cell_selection.Goals as goal

pub sort_part-requires-clause-part : goal.sort_part-requires-clause-part
sort_part-requires-clause-part c =
    let site = c.args.site.now in let parts = c.in_ok-parts.parts.items in let k = c.loop-part.part-index in
    part_at (layout_at site) (meant_at site c.args.selection.now) site.cell c.in_ok-all.all parts c.in_ok-parts.ensures c.in_ok-all.ensures k c.part-item.result
    (item_at c.deref-part-items.result.now parts k c.part-item.result c.deref-part-items.ensures.value c.loop-part-test.true ∙ ap Some (sym c.part-item.is))

pub loop-part-preserved : goal.loop-part-preserved
loop-part-preserved c =
    let site = c.args.site.now in let items = c.deref-part-items.result.now in let k = c.loop-part.part-index in
    sorted_more (layout_at site) (meant_at site c.args.selection.now) site.cell items k c.part-item.result c.loop-part.sorted c.sort_part.new.sorted (item_at items items k c.part-item.result refl c.loop-part-test.true ∙ ap Some (sym c.part-item.is))
    c.in_ok-sort_part.ensures.sorts c.in_ok-sort_part.ensures.rects c.loop-part.invariant

pub returns : goal.returns
returns c =
    let site = c.args.site.now in let x = meant_at site c.args.selection.now in let parts = c.in_ok-parts.parts.items in let k = c.loop-part.part-index in
    let value = c.deref-part-items.ensures.value in
    cell_found (layout_at site) x site.cell c.in_ok-all.all parts c.in_ok-parts.ensures c.in_ok-all.ensures c.requires.ready.site.reached (squares_parted site c.args.selection.now c.sound.ensures c.requires.ready) c.args.below.now c.requires.below
    c.loop-part.sorted k (subst (λ (l : List (List Rect)). length l ≤ k) value c.loop-part-test.false) (subst (λ (l : List (List Rect)). AreSortedTo (layout_at site) x site.cell l k c.loop-part.sorted) value c.loop-part.invariant)
    (record { chosen = c.in_ok-chosen.chosen; rest = c.in_ok-rest.rest }) c.in_ok-chosen.ensures c.in_ok-rest.ensures
