use Rattle.std.proofs.Common.{◌≡◌, ◌++◌, length}
use Rattle.spice_cards.specs.Seen.{params_seen, tokens_seen}
use Rattle.netlist_turn.specs.Pins.{nets_of}
use Rattle.netlist_turn.specs.PinsSeen.{pins_seen}
use Rattle.netlist_turn.proofs.pins.push_nets.Given as goal

abbrev pub invariant-pins : goal.invariant-pins
invariant-pins l = tokens_seen l.out.items ++ nets_of (params_seen l.params) (pins_seen l.rest) ≡ tokens_seen l.fn.out.items ++ nets_of (params_seen l.params) (pins_seen l.pins)

abbrev pub decreases-pins : goal.decreases-pins
decreases-pins l = length l.rest
