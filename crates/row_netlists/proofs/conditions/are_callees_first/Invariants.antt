use Rattle.net_model.specs.Rows.{plain_netlist}
use Rattle.row_netlists.proofs.Tested.{AreFirstBelow}
use Rattle.row_netlists.proofs.conditions.are_callees_first.Given as goal

abbrev pub invariant-loop-i : goal.invariant-loop-i
invariant-loop-i l = AreFirstBelow (plain_netlist l.n) l.i
