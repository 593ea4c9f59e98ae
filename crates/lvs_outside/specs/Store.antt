-- What a store of files by path means to its callers, and what each call on it does to that.
use Rattle.std.specs.Prelude.{◌≡◌, ◌≢◌, ◌⊎◌, ℕ, ◌+◌, ◌-◌, ◌<◌, ◌≤◌, ◌^◌, List, [], ◌++◌, Bool, true}
use Rattle.std.specs.Prelude.{false, length, take, drop, Result, Ok, Err, OnOk, OnErr, IfOk}
use Rattle.std.specs.Prelude.{if◌then◌else◌, ◌==◌}

-- what a store tells of one path
pub data Told : Type 0 where
  Untold : Told
  NoFile : Told
  Holds : (bytes : List ℕ) → Told

-- the file that is open, and how many of its bytes were read or written since
pub data Open : Type 0 where
  Closed : Open
  Reading : (path : List ℕ) (taken : ℕ) → Open
  Writing : (path : List ℕ) (written : ℕ) → Open

-- all that a store means
pub record Store : Type 0 where
  -- what it tells of each path
  pub file : List ℕ → Told
  pub opened : Open
  -- how often a path was answered to have no file, and the last such path
  pub absent : ℕ
  pub last_absent : List ℕ
  -- calls of `start_write` and `write`
  pub write_calls : ℕ
  -- files that were started and not finished
  pub left_open : ℕ
  -- calls that failed
  pub faults : ℕ
  -- writes that took nothing of a piece that isn't empty
  pub empty_takes : ℕ

-- each call's condition: no count stands at its type's end
abbrev pub HasRoom : Store → Type 0
HasRoom s = s.faults + s.absent + s.empty_takes < 2 ^ 64 - 1

-- a file is open for reading
abbrev pub IsReading : Open → Type 0
IsReading Closed = ⊥
IsReading (Reading p k) = Unit {0}
IsReading (Writing p k) = ⊥

-- a file is open for writing
abbrev pub IsWriting : Open → Type 0
IsWriting Closed = ⊥
IsWriting (Reading p k) = ⊥
IsWriting (Writing p k) = Unit {0}

-- a call fails exactly where the count of faults rose
pub record HasCause {T E : Type 0} (old new : ℕ) (result : Result T E) : Type 0 where
  pub failed : OnErr result (old < new)
  pub done : OnOk result (new ≡ old)

-- every path has the file that it had
abbrev pub SameFiles : Store → Store → Type 0
SameFiles old new = (p : List ℕ) → new.file p ≡ old.file p

-- nothing but the open file and the count of faults may have changed
pub record SameRest (old new : Store) : Type 0 where
  pub files : SameFiles old new
  pub absent : new.absent ≡ old.absent
  pub last_absent : new.last_absent ≡ old.last_absent
  pub write_calls : new.write_calls ≡ old.write_calls
  pub left_open : new.left_open ≡ old.left_open
  pub empty_takes : new.empty_takes ≡ old.empty_takes

-- nothing is open, and nothing else changed
pub record Closes (old new : Store) : Type 0 where
  pub opened : new.opened ≡ Closed
  pub rest : SameRest old new
  pub faults : new.faults ≡ old.faults

-- a store that was just made: nothing is open, and every count is 0
pub record IsFresh (s : Store) : Type 0 where
  pub opened : s.opened ≡ Closed
  pub absent : s.absent ≡ 0
  pub last_absent : s.last_absent ≡ []
  pub write_calls : s.write_calls ≡ 0
  pub left_open : s.left_open ≡ 0
  pub faults : s.faults ≡ 0
  pub empty_takes : s.empty_takes ≡ 0

-- a path that is told has a file
abbrev pub IsThere : Told → Type 0
IsThere Untold = Unit {0}
IsThere NoFile = ⊥
IsThere (Holds bytes) = Unit {0}

-- a path that is told has no file
abbrev pub IsAbsent : Told → Type 0
IsAbsent Untold = Unit {0}
IsAbsent NoFile = Unit {0}
IsAbsent (Holds bytes) = ⊥

-- the path's file is open at its first byte
pub record Opened (old new : Store) (path : List ℕ) : Type 0 where
  pub there : IsThere (old.file path)
  pub opened : new.opened ≡ Reading path 0
  pub absent : new.absent ≡ old.absent
  pub last_absent : new.last_absent ≡ old.last_absent

-- the path has no file, and this answer is counted
pub record FoundNone (old new : Store) (path : List ℕ) : Type 0 where
  pub absent_there : IsAbsent (old.file path)
  pub opened : new.opened ≡ Closed
  pub absent : new.absent ≡ old.absent + 1
  pub last_absent : new.last_absent ≡ path

-- whether the path has a file is left open
pub record FailedToOpen (old new : Store) : Type 0 where
  pub opened : new.opened ≡ Closed
  pub absent : new.absent ≡ old.absent
  pub last_absent : new.last_absent ≡ old.last_absent

abbrev pub OpenAnswer : {E : Type 0} → Store → Store → List ℕ → Result Bool E → Type 0
OpenAnswer old new path (Ok true) = Opened old new path
OpenAnswer old new path (Ok false) = FoundNone old new path
OpenAnswer old new path (Err e) = FailedToOpen old new

-- `open_read`: closes what was open, then opens the file or answers that there is none
pub record OpensRead {E : Type 0} (old new : Store) (path : List ℕ)
    (result : Result Bool E) : Type 0 where
  pub answer : OpenAnswer old new path result
  pub files : SameFiles old new
  pub write_calls : new.write_calls ≡ old.write_calls
  pub left_open : new.left_open ≡ old.left_open
  pub empty_takes : new.empty_takes ≡ old.empty_takes
  pub cause : HasCause old.faults new.faults result

-- the open file, k bytes further on
abbrev pub Forward : Open → ℕ → Open
Forward Closed k = Closed
Forward (Reading p t) k = Reading p (t + k)
Forward (Writing p t) k = Writing p (t + k)

-- where the file is told, the buffer's first n bytes are the file's next n, and n is 0 at its end
-- alone
abbrev pub NextBytes : Told → ℕ → ℕ → List ℕ → Type 0
NextBytes Untold at n buf = Unit {0}
NextBytes NoFile at n buf = ⊥
NextBytes (Holds bytes) at n buf =
    (take n buf ≡ take n (drop at bytes)) × (at + n ≤ length bytes) × (n ≡ 0 → at ≡ length bytes)

abbrev pub TakesNext : Store → ℕ → List ℕ → Type 0
TakesNext old n buf =
    elim old.opened [ Closed ↦ ⊥ | Reading p t ↦ NextBytes (old.file p) t n buf | Writing p t ↦ ⊥ ]

pub record ReadBytes (old new : Store) (before buf : List ℕ) (n : ℕ) : Type 0 where
  pub fits : n ≤ length buf
  pub bytes : TakesNext old n buf
  pub behind : drop n buf ≡ drop n before
  pub opened : new.opened ≡ Forward old.opened n

pub record NotRead (old new : Store) (before buf : List ℕ) : Type 0 where
  pub buffer : buf ≡ before
  pub opened : new.opened ≡ old.opened

-- `read`: fills the front of the buffer with the next bytes, answers their number, and leaves the
-- buffer behind them as it was before
pub record Reads {E : Type 0} (old new : Store) (before buf : List ℕ)
    (result : Result ℕ E) : Type 0 where
  pub ok : IfOk result (ReadBytes old new before buf)
  pub err : OnErr result (NotRead old new before buf)
  pub rest : SameRest old new
  pub cause : HasCause old.faults new.faults result

-- the file of one path goes by this step, and each other stays
pub record ChangesOne (old new : Store) (path : List ℕ) (step : Told → Told → Type 0) : Type 0 where
  pub each : (p : List ℕ) → ((p ≡ path) × step (old.file p) (new.file p))
      ⊎ ((p ≢ path) × (new.file p ≡ old.file p))

-- where it is told, the file is empty now
abbrev pub IsEmptied : Told → Told → Type 0
IsEmptied old Untold = Unit {0}
IsEmptied old NoFile = ⊥
IsEmptied old (Holds bytes) = bytes ≡ []

-- what is told once a piece stands behind it
abbrev pub appended : Told → List ℕ → Told
appended Untold piece = Untold
appended NoFile piece = NoFile
appended (Holds bytes) piece = Holds (bytes ++ piece)

abbrev pub path_of : Open → List ℕ
path_of Closed = []
path_of (Reading p k) = p
path_of (Writing p k) = p

pub record Started (old new : Store) (path : List ℕ) : Type 0 where
  pub file : ChangesOne old new path IsEmptied
  pub opened : new.opened ≡ Writing path 0
  pub left_open : new.left_open ≡ old.left_open + 1

pub record NotStarted (old new : Store) : Type 0 where
  pub files : SameFiles old new
  pub opened : new.opened ≡ Closed
  pub left_open : new.left_open ≡ old.left_open

-- `start_write`: closes what was open, makes the path's file empty and opens it for writing
pub record StartsWrite {E : Type 0} (old new : Store) (path : List ℕ)
    (result : Result (Unit {0}) E) : Type 0 where
  pub ok : OnOk result (Started old new path)
  pub err : OnErr result (NotStarted old new)
  pub absent : new.absent ≡ old.absent
  pub last_absent : new.last_absent ≡ old.last_absent
  pub write_calls : new.write_calls ≡ old.write_calls + 1
  pub empty_takes : new.empty_takes ≡ old.empty_takes
  pub cause : HasCause old.faults new.faults result

-- one more where nothing was taken of a piece that isn't empty
abbrev pub empty_take : List ℕ → ℕ → ℕ
empty_take piece n = if n == 0 then (if length piece == 0 then 0 else 1) else 0

pub record Wrote (old new : Store) (piece : List ℕ) (n : ℕ) : Type 0 where
  pub fits : n ≤ length piece
  pub file : ChangesOne old new (path_of old.opened) (λ t u. u ≡ appended t (take n piece))
  pub opened : new.opened ≡ Forward old.opened n
  pub empty_takes : new.empty_takes ≡ old.empty_takes + empty_take piece n

pub record NotWritten (old new : Store) : Type 0 where
  pub files : SameFiles old new
  pub opened : new.opened ≡ old.opened
  pub empty_takes : new.empty_takes ≡ old.empty_takes

-- `write`: appends a prefix of the piece to the open file and answers its length
pub record Writes {E : Type 0} (old new : Store) (piece : List ℕ) (result : Result ℕ E) : Type 0
  where
    pub ok : IfOk result (Wrote old new piece)
    pub err : OnErr result (NotWritten old new)
    pub absent : new.absent ≡ old.absent
    pub last_absent : new.last_absent ≡ old.last_absent
    pub write_calls : new.write_calls ≡ old.write_calls + 1
    pub left_open : new.left_open ≡ old.left_open
    pub cause : HasCause old.faults new.faults result

pub record Finished (old new : Store) : Type 0 where
  pub opened : new.opened ≡ Closed
  pub left_open : new.left_open + 1 ≡ old.left_open

pub record NotFinished (old new : Store) : Type 0 where
  pub opened : new.opened ≡ old.opened
  pub left_open : new.left_open ≡ old.left_open

-- `finish_write`: ends the file and closes it
pub record Finishes {E : Type 0} (old new : Store) (result : Result (Unit {0}) E) : Type 0 where
  pub ok : OnOk result (Finished old new)
  pub err : OnErr result (NotFinished old new)
  pub files : SameFiles old new
  pub absent : new.absent ≡ old.absent
  pub last_absent : new.last_absent ≡ old.last_absent
  pub write_calls : new.write_calls ≡ old.write_calls
  pub empty_takes : new.empty_takes ≡ old.empty_takes
  pub cause : HasCause old.faults new.faults result

-- a store whose empty takes are counted as faults
abbrev pub counted : Store → Store
counted s = record {
  file = s.file;
  opened = s.opened;
  absent = s.absent;
  last_absent =
      s.last_absent;
  write_calls = s.write_calls;
  left_open = s.left_open;
  faults =
      s.faults + s.empty_takes;
  empty_takes = 0;
}
