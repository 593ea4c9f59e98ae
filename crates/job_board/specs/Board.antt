-- What contracts see of a board, of its seats, and of what it hands out.
use Rattle.std.specs.Prelude.{◌≡◌, ◌↔◌, ◌+◌, ◌*◌, ◌<◌, ◌≤◌, ℕ, Bool, true, false, List, [], ◌∷◌, map, length, Option}
use Rattle.std.specs.Prelude.{Some, None, vec_capacity}
use Rattle.std.specs.Global.{Vec}
use Rattle.atomic_table.specs.Table.{Me}
use Rattle.atomic_table.specs.Seated.{TableId}
use Rattle.once_cell.specs.declared.race.once_box.OnceBox.{OnceBox}
use Rattle.job_graph.specs.Graph.{inputs_of, has}
use Rattle.job_graph.specs.declared.notes.CellNote.{CellNote}
use Rattle.job_board.specs.declared.view.Plan.{Plan}
use Rattle.job_board.specs.declared.view.View.{View}
use Rattle.job_board.specs.declared.view.Work.TheVariants.{Resting, Working}
use Rattle.job_board.specs.declared.layout.Layout.{Layout}
use Rattle.job_board.specs.Rule.{graph_of, one_if, IsNumber}
use Rattle.job_board.specs.Views.{all_parts, parted}
use Rattle.job_board.specs.Notes.{AreNotes}
use Rattle.job_board.specs.Layout.{IsLayout}
use Rattle.job_board.specs.Plays.{IsFor}
use Rattle.job_board.specs.Pieces.{IsOut}

-- a board: which one it is, and what it was made of
pub record BoardState (T K : Type 0) : Type 0 where
  pub id : TableId
  pub plan : Plan T K

-- a seat: the board that it is of, what it knows and holds, and for how many notes it has room
pub record SeatState (T K : Type 0) : Type 0 where
  pub board : TableId
  pub me : Me (Option (CellNote T)) (View T K)
  pub room : ℕ

-- a ticket: its job, the notes of the job's inputs, and for how many it has room
pub record TicketState (T : Type 0) : Type 0 where
  pub job : ℕ
  pub notes : List (CellNote T)
  pub room : ℕ

-- a board's parts fit its plan
pub record IsBoard {T K : Type 0} (p : Plan T K) (layout : Layout) (cells : List (OnceBox T))
    (notes : Vec (CellNote T)) : Type 0 where
  pub layout_is : IsLayout (graph_of p) layout
  pub cells_are : p.cells.value.items ≡ cells
  pub count : length cells ≡ length (graph_of p)
  pub no_notes : notes.items ≡ []
  pub room : length (graph_of p) ≤ vec_capacity notes

module _ {T K : Type 0} where
  -- for each job its inputs
  abbrev pub jobs_on : BoardState T K → List (List ℕ)
  jobs_on b = graph_of b.plan

  -- what the board's phase was made from
  abbrev pub key_on : BoardState T K → K
  key_on b = b.plan.key

  -- the seat is one of this board
  abbrev pub IsSeatOf : BoardState T K → SeatState T K → Type 0
  IsSeatOf b s = IsFor b.id b.plan s.board s.me.0

  -- the seat is at no job: each job that it claimed is finished
  abbrev pub IsResting : SeatState T K → Type 0
  IsResting s = s.me.0.work ≡ Resting

  -- there is room for the notes of any one job's inputs
  abbrev pub HasRoom : BoardState T K → ℕ → Type 0
  HasRoom b room =
      (job : ℕ) → job < length (jobs_on b) → length (inputs_of (jobs_on b) job) ≤ room

  -- the seat has no ticket that wasn't published, and has its room
  pub record IsFree (b : BoardState T K) (s : SeatState T K) : Type 0 where
    pub hand : s.me.1 ≡ []
    pub rest : IsResting s
    pub room : HasRoom b s.room

  -- through this seat the job was seen to be ready
  abbrev pub SawReady : BoardState T K → SeatState T K → ℕ → Type 0
  SawReady b s job = (job < length (jobs_on b)) × (has job s.me.0.ready ≡ true)

  -- through this seat all jobs were seen to be finished
  abbrev pub SawAll : SeatState T K → Type 0
  SawAll s = s.me.0.full ≡ true

  -- through this seat the board was stopped
  abbrev pub Stopped : SeatState T K → Type 0
  Stopped s = s.me.0.stopped ≡ true

  -- through this seat the board was seen to be stopped
  abbrev pub SawStop : SeatState T K → Type 0
  SawStop s = s.me.0.seen_stop ≡ true

  -- the last word that was read through this seat is this one, and this number was read there: word
  -- 0 is twice the number of published jobs, and one more once the board is stopped, and of a job
  -- j word 2 j + 1 is its claim word and word 2 j + 2 its count
  abbrev pub Read : SeatState T K → ℕ → ℕ → Type 0
  Read s word n = s.me.0.last ≡ (word, n)

  -- the last number that was read through this seat is that of published jobs, with the stop bit
  abbrev pub ReadCount : SeatState T K → ℕ → Type 0
  ReadCount s finished = (stop : Bool) × Read s 0 (2 * finished + one_if stop)

  -- the seat's parts of the right to be the only one
  abbrev pub parts_of : SeatState T K → ℕ
  parts_of s = s.me.0.part

  -- the board has no other seat
  abbrev pub IsAlone : SeatState T K → Type 0
  IsAlone s = parts_of s ≡ all_parts

  -- the seat, but for its parts
  abbrev pub with_parts : SeatState T K → ℕ → SeatState T K
  with_parts s n = record { board = s.board; me = (parted s.me.0 n, s.me.1); room = s.room }

  -- of its parts a seat that has several gives one to a further seat
  abbrev pub GivesOne : SeatState T K → SeatState T K → SeatState T K → Type 0
  GivesOne old new further =
      1 < parts_of old → (parts_of new + 1 ≡ parts_of old) × (parts_of further ≡ 1)

  -- the jobs that the seat claimed, with those of the seats that joined it
  abbrev pub claims_of : SeatState T K → List ℕ
  claims_of s = map (λ c. c.0) s.me.0.claims

  -- the job is published through this seat: the seat claimed it, and is at no job any more
  abbrev pub IsPublished : SeatState T K → ℕ → Type 0
  IsPublished s job = IsResting s × (has job (claims_of s) ≡ true)

  -- the new claim is of this job, under the seat's one number
  abbrev pub IsNamed : SeatState T K → SeatState T K → ℕ → Type 0
  IsNamed old new job =
      (number : ℕ) × (new.me.0.claims ≡ (job, number) ∷ old.me.0.claims)
      × (new.me.0.number ≡ Some number) × IsNumber old.me.0.number number

  -- the ticket is of a job of this board, with a note of the defined value of each of its inputs
  pub record IsTicket (defined : K → ℕ → T → Type 0) (b : BoardState T K) (t : TicketState T) :
      Type 0 where
    pub within : t.job < length (jobs_on b)
    pub notes : AreNotes defined b.plan (inputs_of (jobs_on b) t.job) t.notes

  -- the ticket was claimed through this seat, and wasn't published
  pub record HasTicket (b : BoardState T K) (s : SeatState T K) (t : TicketState T) : Type 0 where
    pub work : s.me.0.work ≡ Working t.job 0
    pub claimed : has t.job (claims_of s) ≡ true
    pub hand : IsOut None b.plan t.job s.me.1
    pub room : HasRoom b t.room

  -- what a seat saw and did stands
  pub record KeepsSeen (b : BoardState T K) (old new : SeatState T K) : Type 0 where
    pub board : IsSeatOf b new
    pub ready : (job : ℕ) → SawReady b old job → SawReady b new job
    pub all : SawAll old → SawAll new
    pub told : SawStop old → SawStop new
    pub stop : Stopped old → Stopped new

  -- it neither stopped the board nor gave or took parts
  pub record IsCalm (old new : SeatState T K) : Type 0 where
    pub stop : Stopped new ↔ Stopped old
    pub parts : parts_of new ≡ parts_of old

  -- what it saw, claimed and holds stands
  pub record KeepsSeat (b : BoardState T K) (old new : SeatState T K) : Type 0 where
    pub seen : KeepsSeen b old new
    pub claims : claims_of new ≡ claims_of old
    pub free : IsFree b old → IsFree b new
    pub ticket : (t : TicketState T) → HasTicket b old t → HasTicket b new t

-- no job stands twice among these
abbrev pub AreOnce : List ℕ → Type 0
AreOnce [] = Unit {0}
AreOnce (job ∷ jobs) = (has job jobs ≡ false) × AreOnce jobs
