use Rattle.std.proofs.Common.{refl}
use Rattle.lvs_outside.specs.Entries.{told}
use Rattle.lvs_outside.proofs.memory.MemoryDepot.new.Goals as goal

pub returns-clause-files : goal.returns-clause-files
unfolding told
returns-clause-files c p = rw c.new.ensures.items refl
