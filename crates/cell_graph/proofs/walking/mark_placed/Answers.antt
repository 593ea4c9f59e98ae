use Rattle.cell_graph.proofs.Walks.{none_marked, marks_next, all_marked}
use Rattle.cell_graph.proofs.walking.mark_placed.Goals as goal

pub loop-place-init : goal.loop-place-init
loop-place-init c = none_marked c.args.places.now c.args.marks.now.items c.args.stack.now.items

pub loop-place-preserved : goal.loop-place-preserved
loop-place-preserved c = marks_next c.args.places.now c.loop-place.place-index _ c.args.marks.now.items c.loop-place.marks.items c.mark.new.marks.items c.args.stack.now.items c.loop-place.stack.items c.mark.new.stack.items c.loop-place-test.true c.loop-place.invariant c.in_ok-mark.ensures

pub returns : goal.returns
returns c = all_marked c.args.places.now c.loop-place.place-index c.args.marks.now.items c.loop-place.marks.items c.args.stack.now.items c.loop-place.stack.items c.loop-place-test.false c.loop-place.invariant
