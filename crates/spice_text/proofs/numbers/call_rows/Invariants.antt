use Rattle.std.proofs.Common.{◌≡◌, ◌++◌, map, length}
use Rattle.net_model.specs.Rows.{plain_call}
use Rattle.spice_rows.specs.Seen.{call_seen}
use Rattle.call_order.specs.Order.{lists}
use Rattle.spice_text.specs.Table.{needed_of}
use Rattle.spice_text.specs.Means.{call_row}
use Rattle.spice_text.proofs.numbers.call_rows.Given as goal

abbrev pub invariant-calls : goal.invariant-calls
invariant-calls l = map plain_call l.out.items ++ map (call_row l.names (needed_of (lists l.rows) l.globals) l.nets) (map call_seen l.rest) ≡ map (call_row l.names (needed_of (lists l.rows) l.globals) l.nets) (map call_seen l.calls)

abbrev pub decreases-calls : goal.decreases-calls
decreases-calls l = length l.rest
