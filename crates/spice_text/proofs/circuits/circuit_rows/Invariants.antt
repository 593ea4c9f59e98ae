use Rattle.std.proofs.Common.{◌≡◌, ◌++◌, map, length}
use Rattle.net_model.specs.Rows.{plain_circuit}
use Rattle.call_order.specs.Order.{lists}
use Rattle.spice_text.specs.Seen.{circuit_seen}
use Rattle.spice_text.specs.Table.{needed_of}
use Rattle.spice_text.specs.Means.{rows_from}
use Rattle.spice_text.proofs.circuits.circuit_rows.Given as goal

abbrev pub invariant-circuits : goal.invariant-circuits
invariant-circuits l = map plain_circuit l.out.items ++ rows_from l.names (needed_of (lists l.rows) l.globals) (length l.out.items) (map circuit_seen l.c-iterator.rest.items) ≡ rows_from l.names (needed_of (lists l.rows) l.globals) 0 (map circuit_seen l.fn.circuits.items)
