use Rattle.cell_graph.proofs.extents.with_layers.Given as goal
use Rattle.cell_graph.proofs.Extending.{LayersTo}

abbrev pub invariant-loop-layer : goal.invariant-loop-layer
invariant-loop-layer l = LayersTo l.layers l.layer-index l.fn.bounds l.all
