use Rattle.std.proofs.Common.{◌≡◌, map, length}
use Rattle.spice_rows.specs.Seen.{call_seen}
use Rattle.spice_text.specs.Search.{least_in, test_of}
use Rattle.spice_text.specs.Seen.{circuit_seen}
use Rattle.spice_text.proofs.faults.least_in.Given as goal

abbrev pub invariant-calls : goal.invariant-calls
invariant-calls l = least_in (test_of (map circuit_seen l.circuits) l.fault) l.line (map call_seen l.rest) ≡ least_in (test_of (map circuit_seen l.circuits) l.fault) l.fn.found (map call_seen l.calls)

abbrev pub decreases-calls : goal.decreases-calls
decreases-calls l = length l.rest
