use Rattle.cell_graph.proofs.extents.all_bounds.Given as goal
use Rattle.cell_graph.specs.Extents.{AreBoundsTo}

abbrev pub invariant-loop-cell : goal.invariant-loop-cell
invariant-loop-cell l = AreBoundsTo l.cells l.order l.cell-index l.found.items
