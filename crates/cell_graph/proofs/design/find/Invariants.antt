use Rattle.std.proofs.Common.{◌≡◌, drop}
use Rattle.cell_graph.specs.Linked.{own_rects}
use Rattle.cell_graph.proofs.design.find.Given as goal

abbrev pub invariant-loop-layer : goal.invariant-loop-layer
invariant-loop-layer l = own_rects (drop l.layer-index l.layers) l.key ≡ own_rects l.layers l.key
