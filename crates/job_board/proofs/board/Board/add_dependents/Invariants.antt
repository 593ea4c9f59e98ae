use Rattle.std.proofs.Common.{◌≡◌}
use Rattle.job_board.proofs.board.Board.add_dependents.Given as goal

abbrev pub invariant-loop-edge : goal.invariant-loop-edge
invariant-loop-edge g l = l.tries ≡ l.fn.tries
