use Rattle.further_layers.specs.Further.{AreLayersBy, lists_of}
use Rattle.further_layers.proofs.further.cell_layers.Given as goal

abbrev pub invariant-loop-k : goal.invariant-loop-k
invariant-loop-k l = AreLayersBy l.keys (lists_of l.sets) l.cell l.k l.layers.items
