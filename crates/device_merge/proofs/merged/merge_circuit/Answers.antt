use Rattle.net_model.specs.Rows.{plain_circuit}
use Rattle.device_merge.proofs.Few.{ok_widest}
use Rattle.device_merge.proofs.merged.merge_circuit.Goals as goal

pub returns : goal.returns
returns c = ok_widest (plain_circuit c.args.c.now) c.circuit_up_to.result c.circuit_up_to.ensures
