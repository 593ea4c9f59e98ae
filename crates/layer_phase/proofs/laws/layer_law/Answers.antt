use Rattle.layer_phase.proofs.Assembly.{layer}
use Rattle.layer_phase.proofs.Inputs.{input_layer}
use Rattle.layer_phase.proofs.laws.layer_law.Goals as goal

pub returns : goal.returns
returns c = record { derived = layer; input = input_layer }
