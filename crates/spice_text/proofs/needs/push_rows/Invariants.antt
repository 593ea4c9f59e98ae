use Rattle.std.proofs.Common.{◌≡◌, ◌++◌, length}
use Rattle.call_order.specs.Order.{lists}
use Rattle.spice_text.specs.Table.{rows_of}
use Rattle.spice_text.proofs.needs.push_rows.Given as goal

abbrev pub invariant-called : goal.invariant-called
invariant-called l = l.out.items ++ rows_of (lists l.rows) l.rest ≡ l.initial.out.items ++ rows_of (lists l.rows) l.called

abbrev pub decreases-called : goal.decreases-called
decreases-called l = length l.rest
