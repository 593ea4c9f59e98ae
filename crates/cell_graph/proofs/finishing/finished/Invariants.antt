use Rattle.std.proofs.Common.{◌≡◌, ◌++◌, length}
use Rattle.cell_graph.proofs.finishing.finished.Given as goal
use Rattle.cell_graph.proofs.Finishes.{FinishedTo}

abbrev pub invariant-loop-draft : goal.invariant-loop-draft
invariant-loop-draft l =
    (l.fn.drafts.items ≡ l.yielded ++ l.draft-iterator.rest.items)
    × (l.i ≡ length l.yielded)
    × FinishedTo l.fn.drafts.items l.fn.parts.items l.bounds l.heights l.i l.parts.items l.cells.items
