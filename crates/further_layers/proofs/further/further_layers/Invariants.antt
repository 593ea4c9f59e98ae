use Rattle.further_layers.specs.Further.{AreCellLayers, lists_of}
use Rattle.further_layers.proofs.further.further_layers.Given as goal

abbrev pub invariant-loop-cell : goal.invariant-loop-cell
invariant-loop-cell l = AreCellLayers l.keys (lists_of l.sets) l.cell l.further.items
