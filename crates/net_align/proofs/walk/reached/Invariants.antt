use Rattle.net_model.specs.Rows.{plain_netlist}
use Rattle.net_align.specs.Walked.{IsReaching}
use Rattle.net_align.proofs.walk.reached.Given as goal

abbrev pub invariant-loop-i : goal.invariant-loop-i
invariant-loop-i l = IsReaching (plain_netlist l.netlist) l.top l.order l.i l.marks.items
