-- What a depot means that holds files in memory and takes nothing of any piece.
use Rattle.lvs_outside.specs.Store.{Store}
use Rattle.lvs_outside.specs.Token.{count_of}
use Rattle.lvs_outside.specs.MemoryStore.{memory_store}
use Rattle.lvs_outside.specs.declared.idle.IdleDepot.{IdleDepot}

-- the files in memory as a store, with the empty takes
abbrev pub idle_store : IdleDepot → Store
idle_store d =
    let s : Store = memory_store d.inner in
    record {
      file = s.file;
      opened = s.opened;
      absent = s.absent;
      last_absent = s.last_absent;
      write_calls = s.write_calls;
      left_open = s.left_open;
      faults = s.faults;
      empty_takes = count_of d.empty_takes.value;
    }
