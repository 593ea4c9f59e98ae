use Rattle.net_model.specs.Rows.{plain_netlist}
use Rattle.net_align.proofs.BelowTop.{given_side}
use Rattle.net_align.proofs.below.side_of.Given as goal

abbrev pub ghost-align_side : goal.ghost-align_side
ghost-align_side a = given_side (plain_netlist a.netlist.now) a.order.now a.marks.now a.holds.now a.circuits.now
