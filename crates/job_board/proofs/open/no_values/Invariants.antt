use Rattle.std.proofs.Common.{◌≡◌, length}
use Rattle.job_board.proofs.open.no_values.Given as goal

abbrev pub invariant-loop : goal.invariant-loop
invariant-loop g l = length l.cells.items ≡ l.counter
