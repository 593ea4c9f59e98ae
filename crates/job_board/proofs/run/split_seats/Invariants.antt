use Rattle.std.proofs.Common.{◌≡◌, All, length}
use Rattle.job_board.specs.Work.{MayGoOn, IsLessBy}
use Rattle.job_board.proofs.run.split_seats.Given as goal

abbrev pub invariant-loop-worker : goal.invariant-loop-worker
invariant-loop-worker g l = IsLessBy l.worker l.board l.seat × (length l.seats.items ≡ l.worker) × All (λ w. MayGoOn l.board w.1) l.seats.items
