use Rattle.std.proofs.Common.{◌≡◌, ◌++◌, [], map, length}
use Rattle.spice_text.specs.Circuits.{names_of}
use Rattle.spice_text.specs.Search.{first_twice}
use Rattle.spice_text.specs.Seen.{circuit_seen}
use Rattle.spice_text.proofs.faults.known_names.Given as goal

abbrev pub invariant-circuits : goal.invariant-circuits
invariant-circuits l = (l.names ++ names_of (map circuit_seen l.rest) ≡ names_of (map circuit_seen l.circuits)) × (first_twice l.names (map circuit_seen l.rest) ≡ first_twice [] (map circuit_seen l.circuits))

abbrev pub decreases-circuits : goal.decreases-circuits
decreases-circuits l = length l.rest
