use Rattle.cell_graph.proofs.Raising.{above_more, above_all}
use Rattle.cell_graph.proofs.heights.above.Goals as goal

pub loop-place-preserved : goal.loop-place-preserved
loop-place-preserved c = above_more c.args.places.now c.args.heights.now c.loop-place.place-index c.loop-place.most c.higher-most.result _ c.loop-place-test.true c.higher-most.ensures c.loop-place.invariant

pub returns : goal.returns
returns c = let h = c.loop-place.invariant in record {
  over = above_all c.args.places.now c.args.heights.now c.loop-place.place-index c.loop-place.most c.loop-place-test.false h;
  just = h.just;
  low = h.low;
}
