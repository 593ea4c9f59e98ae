-- What a depot of files without an end means: it tells nothing, and never fails.
use Rattle.std.specs.Prelude.{◌+◌, []}
use Rattle.lvs_outside.specs.Store.{Store, Untold}
use Rattle.lvs_outside.specs.Token.{count_of, bytes_of}
use Rattle.lvs_outside.specs.FileStore.{opened_of, one_if_writing}
use Rattle.lvs_outside.specs.declared.endless.EndlessDepot.{EndlessDepot}

abbrev pub endless_store : EndlessDepot → Store
endless_store d = record {
  file = λ p. Untold;
  opened = opened_of d.handle (bytes_of d.path.value) (count_of d.moved.value);
  absent = 0;
  last_absent = [];
  write_calls = count_of d.write_calls.value;
  left_open = count_of d.unfinished.value + one_if_writing d.handle;
  faults = 0;
  empty_takes = 0;
}
