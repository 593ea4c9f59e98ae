use Rattle.gate_shapes.proofs.Looking.{look_alone}
use Rattle.gate_shapes.proofs.laws.looks_alone.Goals as goal

pub returns : goal.returns
returns c = look_alone
