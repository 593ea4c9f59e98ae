use Rattle.std.proofs.Common.{◌≡◌, ℕ, [], length}
use Rattle.job_board.specs.Layout.{edges_at}
use Rattle.job_board.proofs.layout.no_edges.Given as goal

abbrev pub invariant-loop : goal.invariant-loop
invariant-loop l = (length l.edges.items ≡ l.counter) × ((job : ℕ) → edges_at l.edges.items job ≡ [])
