use Rattle.std.proofs.Common.{map, take}
use Rattle.call_order.specs.Order.{lists}
use Rattle.spice_text.specs.Table.{AreSettled}
use Rattle.spice_text.specs.Seen.{circuit_seen}
use Rattle.spice_text.proofs.needs.need_table.Given as goal

abbrev pub invariant-order : goal.invariant-order
invariant-order l = AreSettled (map circuit_seen l.circuits) l.globals.table (take l.i l.order) (lists l.rows.items)
