-- What the trusted edge means: std's files as a store and standard output as a sink tell nothing of
-- contents.
use Rattle.std.specs.Prelude.{ℕ, ◌+◌, List}
use Rattle.lvs_outside.specs.Store.{Store, Untold, Open, Closed as ClosedFile}
use Rattle.lvs_outside.specs.Store.{Reading as ReadingFile, Writing as WritingFile}
use Rattle.lvs_outside.specs.Summary.{SinkState}
use Rattle.lvs_outside.specs.Token.{count_of, bytes_of}
use Rattle.lvs_outside.specs.declared.file.FileDepot.{FileDepot}
use Rattle.lvs_outside.specs.declared.file.Handle.{Handle}
use Rattle.lvs_outside.specs.declared.file.Handle.TheVariants.{Closed, Reading, Writing}
use Rattle.lvs_outside.specs.declared.stdout.StdoutSink.{StdoutSink}

-- the open file, by its handle, its path and the bytes read or written
abbrev pub opened_of : {F : Type 0} → Handle F → List ℕ → ℕ → Open
opened_of Closed path n = ClosedFile
opened_of (Reading f) path n = ReadingFile path n
opened_of (Writing f) path n = WritingFile path n

-- the file being written is left open too
abbrev pub one_if_writing : {F : Type 0} → Handle F → ℕ
one_if_writing Closed = 0
one_if_writing (Reading f) = 0
one_if_writing (Writing f) = 1

-- std's files as a store
abbrev pub store_of : {R D F : Type 0} → FileDepot R D F → Store
store_of d = record {
  file = λ p. Untold;
  opened = opened_of d.handle (bytes_of d.path.value) (count_of d.moved.value);
  absent = d.absent;
  last_absent = bytes_of d.last_absent.value;
  write_calls = count_of d.write_calls.value;
  left_open = count_of d.unfinished.value + one_if_writing d.handle;
  faults = d.faults;
  empty_takes = d.empty_takes;
}

-- standard output as a sink
abbrev pub sink_of : {R : Type 0} → StdoutSink R → SinkState
sink_of s = record {
  told = Untold;
  write_calls = count_of s.write_calls.value;
  faults =
      s.faults;
  empty_takes = s.empty_takes;
}
