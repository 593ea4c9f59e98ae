use Rattle.spice_rows.proofs.ValueLemmas.{told_is}
use Rattle.netlist_turn.proofs.scale.number.Goals as goal

pub returns : goal.returns
returns c = told_is 30 _ c.parse_area.result c.parse_area.ensures.answers
