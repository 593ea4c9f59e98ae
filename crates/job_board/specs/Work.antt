-- What a worker is given: a board of its phase, and a seat.
use Rattle.std.specs.Prelude.{◌≡◌, ◌⊎◌, ◌+◌, ℕ, List}
use Rattle.job_board.specs.Views.{all_parts}
use Rattle.job_board.specs.Board.{BoardState, SeatState, IsSeatOf, IsFree, SawAll, SawStop}
use Rattle.job_board.specs.Board.{Stopped, parts_of, jobs_on, key_on}

module _ {T K : Type 0} where
  -- the board has this graph's jobs, and this key
  pub record IsBoardOf (graph : List (List ℕ)) (key : K) (b : BoardState T K) : Type 0 where
    pub jobs : jobs_on b ≡ graph
    pub key_is : key_on b ≡ key

  -- the seat is a worker's: one of this board, with one part, which didn't stop the board
  pub record IsWorkers (b : BoardState T K) (s : SeatState T K) : Type 0 where
    pub seat : IsSeatOf b s
    pub part : parts_of s ≡ 1
    pub calm : Stopped s → ⊥

  -- and it has no ticket
  pub record MayGoOn (b : BoardState T K) (s : SeatState T K) : Type 0 where
    pub own : IsWorkers b s
    pub free : IsFree b s

  -- the worker ended: it saw all jobs to be finished, or the board to be stopped
  pub record HasEnded (b : BoardState T K) (s : SeatState T K) : Type 0 where
    pub still : MayGoOn b s
    pub cause : SawAll s ⊎ SawStop s

  -- these many seats are away, and this one, which didn't stop the board, has all other parts
  pub record IsLessBy (n : ℕ) (b : BoardState T K) (s : SeatState T K) : Type 0 where
    pub seat : IsSeatOf b s
    pub parts : parts_of s + n ≡ all_parts
    pub calm : Stopped s → ⊥
