use Rattle.std.proofs.Common.{refl}
use Rattle.lvs_outside.specs.LentFiles.{told_or}
use Rattle.lvs_outside.proofs.quiet.QuietDepot.new.Goals as goal

pub returns-clause-files : goal.returns-clause-files
unfolding told_or
returns-clause-files c p = rw (c.new.ensures.items, c.no_paths.ensures) refl
