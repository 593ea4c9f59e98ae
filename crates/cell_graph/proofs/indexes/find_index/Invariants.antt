use Rattle.std.specs.Prelude.{◌≡◌, drop}
use Rattle.cell_graph.specs.Linked.{own_rects}
use Rattle.cell_graph.proofs.indexes.find_index.Given as goal

abbrev pub invariant-loop-i : goal.invariant-loop-i
invariant-loop-i l = own_rects (drop l.i l.layers) l.key ≡ own_rects l.layers l.key
