use Rattle.std.proofs.Common.{refl}
use Rattle.std.proofs.lemmas.List.{take_rest}
use Rattle.lvs_outside.proofs.Told.{same_or_not}
use Rattle.lvs_outside.proofs.WrittenFiles.{starts, goes_on}
use Rattle.lvs_outside.proofs.loops.write_whole.Goals as goal

pub loop-rest-init : goal.loop-rest-init
loop-rest-init g c = starts _ _ _ (λ p. same_or_not p _) refl

pub loop-rest-preserved : goal.loop-rest-preserved
loop-rest-preserved g c = rw take_rest (goes_on _ _ _ _ c.loop-rest.rest.now c.in_ok-count.count c.loop-rest.invariant refl c.in_ok-count.ensures)
