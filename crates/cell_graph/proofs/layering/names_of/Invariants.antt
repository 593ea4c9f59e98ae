use Rattle.std.proofs.Common.{◌≡◌, take}
use Rattle.cell_graph.specs.Layering.{cell_names}
use Rattle.cell_graph.proofs.layering.names_of.Given as goal

abbrev pub invariant-loop-cell : goal.invariant-loop-cell
invariant-loop-cell l = l.names.items ≡ cell_names (take l.cell-index l.cells)
