use Rattle.std.proofs.Common.{◌≡◌, ◌++◌, length}
use Rattle.cell_graph.proofs.LayeredDrafts.{DraftedTo}
use Rattle.cell_graph.proofs.layering.drafts_of.Given as goal

abbrev pub invariant-loop-cell : goal.invariant-loop-cell
invariant-loop-cell l =
    (l.fn.cells.items ≡ l.yielded ++ l.cell-iterator.rest.items)
    × (l.i ≡ length l.yielded)
    × DraftedTo l.names l.fn.cells.items l.keys l.fn.further.items l.i l.further.items l.drafts.items
