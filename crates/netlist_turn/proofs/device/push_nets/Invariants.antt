use Rattle.std.proofs.Common.{◌≡◌, ◌++◌, length}
use Rattle.spice_cards.specs.Seen.{words_seen}
use Rattle.netlist_turn.specs.Devices.{nets_at}
use Rattle.netlist_turn.specs.DevicesSeen.{device_seen}
use Rattle.netlist_turn.proofs.device.push_nets.Given as goal

abbrev pub invariant-places : goal.invariant-places
invariant-places l = words_seen l.out.items ++ nets_at (device_seen l.device) l.rest (words_seen l.words) ≡ words_seen l.fn.out.items ++ nets_at (device_seen l.device) l.device.places.items (words_seen l.words)

abbrev pub decreases-places : goal.decreases-places
decreases-places l = length l.rest
