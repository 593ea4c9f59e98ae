use Rattle.std.proofs.Common.{◌≡◌, ◌++◌, ℕ, length}
use Rattle.job_board.specs.Layout.{edges_at}
use Rattle.job_board.proofs.Edges.{edge_so_far}
use Rattle.job_board.proofs.layout.add_edges.Given as goal

abbrev pub invariant-loop-place : goal.invariant-loop-place
invariant-loop-place l =
    (length l.edges.items ≡ length l.fn.edges.items) × ((from : ℕ) → edges_at l.edges.items from ≡ edges_at l.fn.edges.items from ++ edge_so_far l.inputs l.job l.first l.place from)
