-- What a whole file read, a whole text written and a whole summary sent come to.
use Rattle.std.specs.Prelude.{◌≡◌, ◌⊎◌, ℕ, ◌+◌, ◌<◌, ◌≤◌, List, ◌++◌, length, take, drop, Result}
use Rattle.std.specs.Prelude.{Ok, Err, OnOk, OnErr}
use Rattle.lvs_outside.specs.Store.{Store, Told, Untold, NoFile, Holds, Closed, Reading, Writing}
use Rattle.lvs_outside.specs.Store.{Forward, SameFiles, SameRest, HasCause, ChangesOne, appended}
use Rattle.lvs_outside.specs.Store.{path_of}
use Rattle.lvs_outside.specs.Summary.{SinkState}
use Rattle.lvs_outside.specs.declared.loops.ReadFault.{ReadFault}
use Rattle.lvs_outside.specs.declared.loops.ReadFault.TheVariants.{Failed, TooLong, NoMemory}

-- the most bytes of a file that are taken
abbrev pub limit : ℕ
limit = 268435456

-- a fact on what is told of the file that is open for reading, and on how far it was read
abbrev pub OfOpenFile : Store → (Told → ℕ → Type 0) → Type 0
OfOpenFile s P =
    elim s.opened [ Closed ↦ Unit {0} | Reading p t ↦ P (s.file p) t | Writing p t ↦ Unit {0} ]

-- where the file is told, these bytes are all of it from a place on
abbrev pub IsRest : List ℕ → Told → ℕ → Type 0
IsRest bytes Untold at = Unit {0}
IsRest bytes NoFile at = Unit {0}
IsRest bytes (Holds all) at = bytes ≡ drop at all

-- where the file is told, these bytes come next in it
abbrev pub IsNext : List ℕ → Told → ℕ → Type 0
IsNext bytes Untold at = Unit {0}
IsNext bytes NoFile at = Unit {0}
IsNext bytes (Holds all) at = bytes ≡ take (length bytes) (drop at all)

-- where the file is told, it has more than n bytes from a place on
abbrev pub IsLonger : ℕ → Told → ℕ → Type 0
IsLonger n Untold at = Unit {0}
IsLonger n NoFile at = Unit {0}
IsLonger n (Holds all) at = at + n < length all

abbrev pub TellsAll : Store → List ℕ → Type 0
TellsAll s bytes = OfOpenFile s (IsRest bytes)

abbrev pub TellsNext : Store → List ℕ → Type 0
TellsNext s bytes = OfOpenFile s (IsNext bytes)

abbrev pub TellsLonger : Store → ℕ → Type 0
TellsLonger s n = OfOpenFile s (IsLonger n)

-- the file was read to its end, and wasn't too long
pub record ReadWhole (old new : Store) (bytes : List ℕ) : Type 0 where
  pub told : TellsAll old bytes
  pub fits : length bytes ≤ limit
  pub opened : new.opened ≡ Forward old.opened (length bytes)
  pub faults : new.faults ≡ old.faults

-- more was read than is taken, and the file still stands open
pub record ReadTooMuch (old new : Store) (bytes : List ℕ) : Type 0 where
  pub long : limit < length bytes
  pub told : TellsLonger old limit
  pub opened : new.opened ≡ Forward old.opened (length bytes)
  pub faults : new.faults ≡ old.faults

-- a read failed
pub record ReadFailed (old new : Store) (bytes : List ℕ) : Type 0 where
  pub opened : new.opened ≡ Forward old.opened (length bytes)
  pub faults : old.faults < new.faults

abbrev pub ReadAnswer : Store → Store → List ℕ → Result (Unit {0}) ReadFault → Type 0
ReadAnswer old new bytes (Ok u) = ReadWhole old new bytes
ReadAnswer old new bytes (Err TooLong) = ReadTooMuch old new bytes
ReadAnswer old new bytes (Err Failed) = ReadFailed old new bytes
ReadAnswer old new bytes (Err NoMemory) = new.faults ≡ old.faults

-- `read_rest`: what came of it, and the file's next bytes in every case
pub record ReadsRest (old new : Store) (bytes : List ℕ)
    (result : Result (Unit {0}) ReadFault) : Type 0 where
  pub answer : ReadAnswer old new bytes result
  pub next : TellsNext old bytes
  pub rest : SameRest old new

-- these bytes were read since, and nothing else happened
pub record Follows (old new : Store) (bytes : List ℕ) : Type 0 where
  pub next : TellsNext old bytes
  pub opened : new.opened ≡ Forward old.opened (length bytes)
  pub rest : SameRest old new
  pub faults : new.faults ≡ old.faults

-- the open file has this text behind what it held, and nothing else changed but counts of calls and
-- faults
pub record Appended (old new : Store) (text : List ℕ) : Type 0 where
  pub file : ChangesOne old new (path_of old.opened) (λ t u. u ≡ appended t text)
  pub opened : new.opened ≡ Forward old.opened (length text)
  pub absent : new.absent ≡ old.absent
  pub last_absent : new.last_absent ≡ old.last_absent
  pub write_calls : old.write_calls ≤ new.write_calls
  pub left_open : new.left_open ≡ old.left_open
  pub empty_takes : new.empty_takes ≡ old.empty_takes

-- a text's prefix has a fact
pub record ForPrefix (text : List ℕ) (P : List ℕ → Type 0) : Type 0 where
  pub front : List ℕ
  pub behind : List ℕ
  pub whole : front ++ behind ≡ text
  pub holds : P front

-- `write_whole`: the whole text stands behind what the file held, or after a fault a prefix of it
pub record AppendsWhole {E : Type 0} (old new : Store) (text : List ℕ)
    (result : Result (Unit {0}) E) : Type 0 where
  pub ok : OnOk result (Appended old new text)
  pub err : OnErr result (ForPrefix text (Appended old new))
  pub cause : HasCause old.faults new.faults result

-- where it is told, the file is these bytes
abbrev pub IsFile : List ℕ → Told → Type 0
IsFile bytes Untold = Unit {0}
IsFile bytes NoFile = ⊥
IsFile bytes (Holds all) = all ≡ bytes

-- where it is told, the file of one path is these bytes now, and each other file stays
abbrev pub HoldsNow : Store → Store → List ℕ → List ℕ → Type 0
HoldsNow old new path bytes = ChangesOne old new path (λ t u. IsFile bytes u)

pub record WroteFile (old new : Store) (path text : List ℕ) : Type 0 where
  pub file : HoldsNow old new path text
  pub opened : new.opened ≡ Closed
  pub left_open : new.left_open ≡ old.left_open

-- the file wasn't started
pub record NoneWritten (old new : Store) : Type 0 where
  pub files : SameFiles old new
  pub left_open : new.left_open ≡ old.left_open

-- the file was started, holds a prefix of the text and is left open
pub record PartWritten (old new : Store) (path text : List ℕ) : Type 0 where
  pub file : ForPrefix text (HoldsNow old new path)
  pub left_open : new.left_open ≡ old.left_open + 1

-- `write_file`: the file is the text, or after a fault it is as it was or a prefix of the text
pub record WritesFile {E : Type 0} (old new : Store) (path text : List ℕ)
    (result : Result (Unit {0}) E) : Type 0 where
  pub ok : OnOk result (WroteFile old new path text)
  pub err : OnErr result (NoneWritten old new ⊎ PartWritten old new path text)
  pub absent : new.absent ≡ old.absent
  pub last_absent : new.last_absent ≡ old.last_absent
  pub write_calls : old.write_calls < new.write_calls
  pub empty_takes : new.empty_takes ≡ old.empty_takes
  pub cause : HasCause old.faults new.faults result

-- the sink took this text, and nothing else changed but counts of calls and faults
pub record Sent (old new : SinkState) (text : List ℕ) : Type 0 where
  pub told : new.told ≡ appended old.told text
  pub write_calls : old.write_calls ≤ new.write_calls
  pub empty_takes : new.empty_takes ≡ old.empty_takes

-- `write_all`: the sink took the whole text, or after a fault a prefix of it
pub record SendsWhole {E : Type 0} (old new : SinkState) (text : List ℕ)
    (result : Result (Unit {0}) E) : Type 0 where
  pub ok : OnOk result (Sent old new text)
  pub err : OnErr result (ForPrefix text (Sent old new))
  pub cause : HasCause old.faults new.faults result
