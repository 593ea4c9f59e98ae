-- What the memory objects mean: they tell everything.
use Rattle.std.specs.Prelude.{◌≡◌, ℕ, ◌+◌, List}
use Rattle.lvs_outside.specs.Store.{Store, NoFile, Holds, Closed, SameRest, ChangesOne}
use Rattle.lvs_outside.specs.Summary.{SinkState}
use Rattle.lvs_outside.specs.Token.{count_of, bytes_of}
use Rattle.lvs_outside.specs.Schedule.{faults_of}
use Rattle.lvs_outside.specs.Entries.{told, open_at, one_if_open}
use Rattle.lvs_outside.specs.declared.schedule.Schedule.{Schedule}
use Rattle.lvs_outside.specs.declared.memory.MemoryDepot.{MemoryDepot}
use Rattle.lvs_outside.specs.declared.memory_sink.MemorySink.{MemorySink}

-- files in memory as a store
abbrev pub memory_store : MemoryDepot → Store
memory_store d = record {
  file = told d.files.items;
  opened = open_at d.place (bytes_of d.path.value) (count_of d.written.value);
  absent = d.absent;
  last_absent = bytes_of d.last_absent.value;
  write_calls = count_of d.write_calls.value;
  left_open = count_of d.unfinished.value + one_if_open d.place;
  faults = faults_of d.schedule;
  empty_takes = 0;
}

-- which calls on it fail
abbrev pub schedule_of : MemoryDepot → Schedule
schedule_of d = d.schedule

-- bytes in memory as a sink
abbrev pub memory_sink : MemorySink → SinkState
memory_sink s = record {
  told = Holds s.bytes.items;
  write_calls =
      count_of s.write_calls.value;
  faults = faults_of s.schedule;
  empty_takes = 0;
}

-- which calls on it fail
abbrev pub sink_schedule : MemorySink → Schedule
sink_schedule s = s.schedule

-- every path has no file
abbrev pub HasNoFiles : Store → Type 0
HasNoFiles s = (p : List ℕ) → s.file p ≡ NoFile

-- the path's file is these bytes, nothing is open, and nothing else changed
pub record Puts (old new : Store) (path bytes : List ℕ) : Type 0 where
  pub file : ChangesOne old new path (λ t u. u ≡ Holds bytes)
  pub opened : new.opened ≡ Closed
  pub absent : new.absent ≡ old.absent
  pub last_absent : new.last_absent ≡ old.last_absent
  pub write_calls : new.write_calls ≡ old.write_calls
  pub left_open : new.left_open ≡ old.left_open
  pub faults : new.faults ≡ old.faults
  pub empty_takes : new.empty_takes ≡ old.empty_takes

-- nothing changed
pub record Stays (old new : Store) : Type 0 where
  pub rest : SameRest old new
  pub opened : new.opened ≡ old.opened
  pub faults : new.faults ≡ old.faults
