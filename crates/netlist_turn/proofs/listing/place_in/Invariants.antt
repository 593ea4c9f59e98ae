use Rattle.std.proofs.Common.{◌≡◌, ◌+◌, length}
use Rattle.netlist_turn.specs.Devices.{place_in}
use Rattle.netlist_turn.specs.PinsSeen.{pins_seen}
use Rattle.netlist_turn.proofs.listing.place_in.Given as goal

abbrev pub invariant-ports : goal.invariant-ports
invariant-ports l = (place_in (pins_seen l.rest) l.k l.letter ≡ place_in (pins_seen l.ports) 0 l.letter) × (l.k + length l.rest ≡ length l.ports)

abbrev pub decreases-ports : goal.decreases-ports
decreases-ports l = length l.rest
