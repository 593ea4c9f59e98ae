use Rattle.std.proofs.Common.{◌≡◌, map, length}
use Rattle.spice_rows.specs.Seen.{call_seen}
use Rattle.spice_text.specs.Table.{with_calls}
use Rattle.spice_text.proofs.needs.push_calls.Given as goal

abbrev pub invariant-calls : goal.invariant-calls
invariant-calls l = with_calls l.globals l.out.items (map call_seen l.rest) ≡ with_calls l.globals l.initial.out.items (map call_seen l.calls)

abbrev pub decreases-calls : goal.decreases-calls
decreases-calls l = length l.rest
