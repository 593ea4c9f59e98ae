-- What a depot and sink means that keeps nothing of what it takes but the number of bytes.
use Rattle.std.specs.Prelude.{ℕ, ◌+◌, Bool, true, false}
use Rattle.lvs_outside.specs.Store.{Store, Told, Untold, NoFile, Holds}
use Rattle.lvs_outside.specs.Summary.{SinkState}
use Rattle.lvs_outside.specs.Token.{count_of, bytes_of, paths_of}
use Rattle.lvs_outside.specs.LentFiles.{told_lent, access_at, one_if_written}
use Rattle.lvs_outside.specs.declared.quiet.QuietDepot.{QuietDepot}

-- the files lent as a store, which tells none that was written since it was lent, and never fails
abbrev pub quiet_store : QuietDepot → Store
quiet_store d = record {
  file = told_lent d.lent.items (paths_of d.written_paths.value);
  opened = access_at d.access (bytes_of d.path.value) (count_of d.moved.value);
  absent = count_of d.absent.value;
  last_absent = bytes_of d.last_absent.value;
  write_calls = count_of d.write_calls.value;
  left_open = count_of d.unfinished.value + one_if_written d.access;
  faults = 0;
  empty_takes = 0;
}

-- the taker of a summary, which tells nothing of it and never fails
abbrev pub quiet_sink : QuietDepot → SinkState
quiet_sink d =
    record { told = Untold; write_calls = count_of d.sends.value; faults = 0; empty_takes = 0 }

-- how many bytes were taken so far, of files and of summaries
abbrev pub taken_by : QuietDepot → ℕ
taken_by d = count_of d.tally.taken.value

-- a store tells a path's bytes
abbrev pub is_held : Told → Bool
is_held Untold = false
is_held NoFile = false
is_held (Holds bytes) = true
