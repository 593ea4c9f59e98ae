use Rattle.std.proofs.Common.{◌≡◌, Some, length, slice_get, sym, ap, subst, ◌∙◌}
use Rattle.std.proofs.lemmas.Option.{slice_get-get_or}
use Rattle.cell_graph.specs.Parts.{IsAmong, AreInside}
use Rattle.cell_graph.specs.Tops.{MarksMore}
use Rattle.cell_graph.proofs.Roots.{none_placed, one_more_placed, all_placed}
use Rattle.cell_graph.proofs.tops.placed_of.Goals as goal

pub loop-i-init : goal.loop-i-init
loop-i-init c = none_placed c.args.parts.now c.in_ok-marks.marks.items (c.in_ok-marks.ensures.items_if_clones_equal (λ y e. e))

pub mark_cells-requires : goal.mark_cells-requires
mark_cells-requires c =
    let parts = c.args.parts.now in
    let i = c.loop-i.i in
    let part = c.index-parts-i.result in
    let there : slice_get parts i ≡ Some part = slice_get-get_or parts i part c.loop-i-test.true ∙ ap Some (sym c.index-parts-i.is) in
    subst (λ xs. AreInside xs (length c.loop-i.marks.items)) (sym c.deref.ensures.value) (subst (λ n. AreInside part.items n) (sym c.loop-i.invariant.count) (c.requires.inside i part there))

pub loop-i-preserved : goal.loop-i-preserved
loop-i-preserved c =
    let parts = c.args.parts.now in
    let i = c.loop-i.i in
    let part = c.index-parts-i.result in
    let there : slice_get parts i ≡ Some part = slice_get-get_or parts i part c.loop-i-test.true ∙ ap Some (sym c.index-parts-i.is) in
    let more : MarksMore (IsAmong part.items) c.loop-i.marks.items c.mark_cells.new.marks.items = subst (λ xs. MarksMore (IsAmong xs) c.loop-i.marks.items c.mark_cells.new.marks.items) c.deref.ensures.value c.mark_cells.ensures in
    one_more_placed parts i part c.loop-i.marks.items c.mark_cells.new.marks.items there more c.loop-i.invariant

pub returns : goal.returns
returns c = all_placed c.args.parts.now c.loop-i.i c.loop-i.marks.items c.loop-i-test.false c.loop-i.invariant
