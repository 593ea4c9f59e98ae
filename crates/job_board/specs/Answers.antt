-- What the answers of a board's calls say.
use Rattle.std.specs.Prelude.{ℕ, ◌+◌, ◌*◌}
use Rattle.job_board.specs.declared.seat.Ready.{Ready}
use Rattle.job_board.specs.declared.seat.Look.{Look}
use Rattle.job_board.specs.declared.seat.Look.TheVariants.{Ready as IsReady, NotReady}
use Rattle.job_board.specs.declared.seat.Claim.{Claim}
use Rattle.job_board.specs.declared.seat.Claim.TheVariants.{Mine, Taken}
use Rattle.job_board.specs.declared.seat.Progress.{Progress}
use Rattle.job_board.specs.Rule.{one_if}
use Rattle.job_board.specs.Board.{TicketState}

abbrev pub IfReady : Look → (Ready → Type 0) → Type 0
IfReady (IsReady r) P = P r
IfReady (NotReady n) P = Unit {0}

abbrev pub IfNotReady : Look → (ℕ → Type 0) → Type 0
IfNotReady (IsReady r) P = Unit {0}
IfNotReady (NotReady n) P = P n

-- the number that was read in the job's count
abbrev pub count_in : Look → ℕ
count_in (IsReady r) = 0
count_in (NotReady n) = n

-- the number that a progress was read from
abbrev pub word_in : Progress → ℕ
word_in p = 2 * p.finished + one_if p.stopped

module _ {T : Type 0} where
  -- the number that was read in the job's claim word
  abbrev pub claim_in : Claim T → ℕ
  claim_in (Mine t) = 0
  claim_in (Taken n) = n

  abbrev pub IfMine : Claim T → (TicketState T → Type 0) → Type 0
  IfMine (Mine t) P = P t
  IfMine (Taken n) P = Unit {0}

  abbrev pub IfTaken : Claim T → (ℕ → Type 0) → Type 0
  IfTaken (Mine t) P = Unit {0}
  IfTaken (Taken n) P = P n
