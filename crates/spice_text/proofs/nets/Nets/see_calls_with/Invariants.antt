use Rattle.std.proofs.Common.{◌≡◌, map, length}
use Rattle.spice_rows.specs.Seen.{call_seen}
use Rattle.call_order.specs.Order.{lists}
use Rattle.spice_text.specs.Table.{needed_of, seen_with_needs}
use Rattle.spice_text.specs.Needs.{HaveBytes}
use Rattle.spice_text.proofs.nets.Nets.see_calls_with.Given as goal

abbrev pub invariant-calls : goal.invariant-calls
invariant-calls l = HaveBytes l.self.table × (seen_with_needs l.names (needed_of (lists l.rows) l.globals) l.self.table (map call_seen l.rest) ≡ seen_with_needs l.names (needed_of (lists l.rows) l.globals) l.fn.self.table (map call_seen l.calls))

abbrev pub decreases-calls : goal.decreases-calls
decreases-calls l = length l.rest
