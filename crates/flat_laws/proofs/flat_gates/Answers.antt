use Rattle.flat_laws.proofs.Above.{flat_gates}
use Rattle.flat_laws.proofs.flat_gates.Goals as goal

pub returns : goal.returns
returns c = flat_gates
