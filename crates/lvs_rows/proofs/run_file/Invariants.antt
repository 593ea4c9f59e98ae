use Rattle.std.proofs.Common.{length}
use Rattle.lvs_rows.proofs.run_file.Given as goal

abbrev pub decreases-loop-rest : goal.decreases-loop-rest
decreases-loop-rest g l = length l.rest
