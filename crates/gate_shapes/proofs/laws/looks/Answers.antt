use Rattle.gate_shapes.proofs.Looking.{look}
use Rattle.gate_shapes.proofs.laws.looks.Goals as goal

pub returns : goal.returns
returns c = look
