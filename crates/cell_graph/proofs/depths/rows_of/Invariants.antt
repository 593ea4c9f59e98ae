use Rattle.std.proofs.Common.{◌≡◌, take}
use Rattle.call_order.specs.Order.{lists}
use Rattle.cell_graph.proofs.depths.rows_of.Given as goal
use Rattle.cell_graph.specs.Parts.{called}

abbrev pub invariant-loop-part : goal.invariant-loop-part
invariant-loop-part l = lists l.rows.items ≡ called (take l.part-index l.parts)
