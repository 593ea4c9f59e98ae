use Rattle.rect_sets.proofs.Ordering.{blocks_law}
use Rattle.rect_sets.specs.Edges.{set_of}
use Rattle.rect_sets.proofs.set.sweep.Goals as goal

pub invariant_of-result : goal.invariant_of-result
invariant_of-result c = (blocks_law (set_of c.args.op c.args.edges.items) c.in_ok-found.found.items c.in_ok-rects.rects.items c.in_ok-found.ensures c.in_ok-rects.ensures).0

pub returns : goal.returns
returns c = (blocks_law (set_of c.args.op c.args.edges.items) c.in_ok-found.found.items c.in_ok-rects.rects.items c.in_ok-found.ensures c.in_ok-rects.ensures).1
