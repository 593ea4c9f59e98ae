use Rattle.std.proofs.Common.{◌≡◌, map, length, None}
use Rattle.spice_text.specs.Search.{least_in_all, test_of}
use Rattle.spice_text.specs.Seen.{circuit_seen}
use Rattle.spice_text.proofs.faults.least_line.Given as goal

abbrev pub invariant-circuits : goal.invariant-circuits
invariant-circuits l = least_in_all (test_of (map circuit_seen l.circuits) l.fault) l.line (map circuit_seen l.rest) ≡ least_in_all (test_of (map circuit_seen l.circuits) l.fault) None (map circuit_seen l.circuits)

abbrev pub decreases-circuits : goal.decreases-circuits
decreases-circuits l = length l.rest
