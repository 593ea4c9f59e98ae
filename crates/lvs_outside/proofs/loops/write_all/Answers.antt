use Rattle.std.proofs.Common.{refl}
use Rattle.std.proofs.lemmas.List.{take_rest}
use Rattle.lvs_outside.proofs.WrittenFiles.{sending_goes_on}
use Rattle.lvs_outside.proofs.loops.write_all.Goals as goal

pub loop-rest-preserved : goal.loop-rest-preserved
loop-rest-preserved g c = rw take_rest (sending_goes_on _ _ _ _ c.loop-rest.rest.now c.in_ok-count.count c.loop-rest.invariant refl c.in_ok-count.ensures)
