use Rattle.std.proofs.Common.{◌≡◌, ◌++◌, map, length}
use Rattle.spice_rows.specs.Seen.{call_seen}
use Rattle.spice_text.specs.Circuits.{called_in}
use Rattle.spice_text.proofs.calls.numbers.Given as goal

abbrev pub invariant-calls : goal.invariant-calls
invariant-calls l = l.row.items ++ map (called_in l.names) (map call_seen l.rest) ≡ map (called_in l.names) (map call_seen l.calls)

abbrev pub decreases-calls : goal.decreases-calls
decreases-calls l = length l.rest
