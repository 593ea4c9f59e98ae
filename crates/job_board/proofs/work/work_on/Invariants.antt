use Rattle.std.proofs.Common.{◌≡◌, length}
use Rattle.job_board.specs.Board.{jobs_on}
use Rattle.job_board.specs.Work.{MayGoOn}
use Rattle.job_board.proofs.work.work_on.Given as goal

abbrev pub invariant-loop : goal.invariant-loop
invariant-loop g l =
    (goal.iterator-loop g).can_next l.iterator' × (goal.iterator-loop g).is_finite l.iterator' × MayGoOn l.board l.seat × (l.tries ≡ length (jobs_on l.board))
