use Rattle.std.proofs.Common.{refl}
use Rattle.layer_phase.proofs.exposed.known.Goals as goal

pub returns-then-is_of : goal.returns-then-is_of
returns-then-is_of c = rw c.deref.ensures.value at (c.if-is_of.ensures refl)
