use Rattle.cell_graph.proofs.Roots.{none_more_marked, one_more_marked, all_more_marked}
use Rattle.cell_graph.proofs.tops.mark_cells.Goals as goal

pub loop-place-init : goal.loop-place-init
loop-place-init c = none_more_marked c.args.places.now c.args.marks.now.items

pub loop-place-preserved : goal.loop-place-preserved
loop-place-preserved c = one_more_marked c.args.places.now c.loop-place.place-index _ c.args.marks.now.items c.loop-place.marks.items c.loop-place-test.true c.requires c.loop-place.invariant

pub returns : goal.returns
returns c = all_more_marked c.args.places.now c.loop-place.place-index c.args.marks.now.items c.loop-place.marks.items c.loop-place-test.false c.loop-place.invariant
