use Rattle.std.proofs.Common.{length}
use Rattle.lvs_outside.specs.Files.{files_of}
use Rattle.lvs_outside.proofs.Writing.{Progress}
use Rattle.lvs_outside.proofs.files.write_files.Given as goal

abbrev pub invariant-files : goal.invariant-files
invariant-files g l = Progress (g.D.Depot.state l.fn.depot) (g.D.Depot.state l.depot) (files_of l.rest) (files_of l.files)

abbrev pub decreases-files : goal.decreases-files
decreases-files g l = length l.rest
