use Rattle.std.proofs.Common.{◌⊎◌, ◌≤◌, All, IfOk, length}
use Rattle.job_board.specs.Board.{SawAll, SawStop}
use Rattle.job_board.specs.Work.{HasEnded, IsLessBy}
use Rattle.job_board.proofs.run.join_seats.Given as goal

abbrev pub invariant-loop-end : goal.invariant-loop-end
invariant-loop-end g l =
    IsLessBy (length l.ended.items) l.board l.seat × All (λ r. IfOk r (HasEnded l.board)) l.ended.items
    × ((1 ≤ length l.ended.items) ⊎ (SawAll l.seat ⊎ SawStop l.seat))

abbrev pub decreases-loop-end : goal.decreases-loop-end
decreases-loop-end g l = length l.ended.items
