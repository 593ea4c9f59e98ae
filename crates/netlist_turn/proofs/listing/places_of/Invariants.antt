use Rattle.std.proofs.Common.{◌≡◌, ◌++◌, length}
use Rattle.netlist_turn.specs.Devices.{places_in}
use Rattle.netlist_turn.specs.PinsSeen.{pins_seen}
use Rattle.netlist_turn.proofs.listing.places_of.Given as goal

abbrev pub invariant-letters : goal.invariant-letters
invariant-letters l = l.places.items ++ places_in (pins_seen l.ports) l.rest ≡ places_in (pins_seen l.ports) l.letters

abbrev pub decreases-letters : goal.decreases-letters
decreases-letters l = length l.rest
