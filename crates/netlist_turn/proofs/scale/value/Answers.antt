use Rattle.spice_rows.proofs.ValueLemmas.{answer_is}
use Rattle.netlist_turn.proofs.scale.value.Goals as goal

pub returns : goal.returns
returns c = answer_is _ c.parse_value.result c.parse_value.ensures.answers
