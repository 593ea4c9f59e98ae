use Rattle.rect_sets.proofs.Ordering.{blocks_law}
use Rattle.rect_sets.specs.Combined.{combined_set}
use Rattle.rect_sets.proofs.set.combine_rects.Goals as goal

pub invariant_of-result : goal.invariant_of-result
invariant_of-result c = (blocks_law (combined_set c.args.op c.args.a.now c.args.b.now) c.in_ok-found.found.items c.in_ok-rects.rects.items c.in_ok-found.ensures c.in_ok-rects.ensures).0

pub returns : goal.returns
returns c = (blocks_law (combined_set c.args.op c.args.a.now c.args.b.now) c.in_ok-found.found.items c.in_ok-rects.rects.items c.in_ok-found.ensures c.in_ok-rects.ensures).1
