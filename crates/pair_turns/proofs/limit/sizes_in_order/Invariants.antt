use Rattle.net_model.specs.Rows.{plain_netlist}
use Rattle.pair_turns.proofs.Sized.{AreSizesBelow}
use Rattle.pair_turns.proofs.limit.sizes_in_order.Given as goal

abbrev pub invariant-loop-circuit : goal.invariant-loop-circuit
invariant-loop-circuit l = AreSizesBelow (plain_netlist l.netlist) l.goes l.order l.circuit-index l.sizes.items
