use Rattle.std.proofs.Common.{◌≡◌, ◌++◌, length}
use Rattle.netlist_turn.specs.Devices.{free_letters}
use Rattle.netlist_turn.specs.PinsSeen.{pins_seen}
use Rattle.netlist_turn.proofs.listing.push_free.Given as goal

abbrev pub invariant-letters : goal.invariant-letters
invariant-letters l = pins_seen l.out.items ++ free_letters l.rest (pins_seen l.nets) ≡ pins_seen l.fn.out.items ++ free_letters l.letters (pins_seen l.nets)

abbrev pub decreases-letters : goal.decreases-letters
decreases-letters l = length l.rest
