use Rattle.rule_layers.proofs.Reaching.{reach_law, reach_in, near, gate_reaches}
use Rattle.rule_layers.proofs.reaches.Goals as goal

pub returns : goal.returns
returns c = record { name = reach_law; inside = reach_in; near = near; device = gate_reaches }
