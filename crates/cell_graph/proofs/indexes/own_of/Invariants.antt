use Rattle.std.specs.Prelude.{◌≡◌, take}
use Rattle.cell_graph.specs.Indexes.{sets_of}
use Rattle.cell_graph.proofs.indexes.own_of.Given as goal

abbrev pub invariant-loop-layer : goal.invariant-loop-layer
invariant-loop-layer l = l.own.items ≡ sets_of (take l.layer-index l.layers)
