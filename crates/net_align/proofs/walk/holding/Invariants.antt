use Rattle.net_model.specs.Rows.{plain_netlist}
use Rattle.net_align.specs.Walked.{IsHoldingBelow}
use Rattle.net_align.proofs.walk.holding.Given as goal

abbrev pub invariant-loop-circuit : goal.invariant-loop-circuit
invariant-loop-circuit l = IsHoldingBelow (plain_netlist l.netlist) l.order l.circuit-index l.marks.items
