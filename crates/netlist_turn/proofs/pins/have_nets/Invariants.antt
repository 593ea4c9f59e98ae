use Rattle.std.proofs.Common.{◌≡◌, length}
use Rattle.std.specs.List.{list_all}
use Rattle.spice_cards.specs.Seen.{params_seen}
use Rattle.netlist_turn.specs.Pins.{has_net}
use Rattle.netlist_turn.specs.PinsSeen.{pins_seen}
use Rattle.netlist_turn.proofs.pins.have_nets.Given as goal

abbrev pub invariant-pins : goal.invariant-pins
invariant-pins l = list_all (has_net (params_seen l.params)) (pins_seen l.rest) ≡ list_all (has_net (params_seen l.params)) (pins_seen l.pins)

abbrev pub decreases-pins : goal.decreases-pins
decreases-pins l = length l.rest
