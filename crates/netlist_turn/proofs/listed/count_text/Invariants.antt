use Rattle.std.proofs.Common.{◌≡◌, length}
use Rattle.spice_cards.specs.Seen.{params_seen}
use Rattle.netlist_turn.specs.DevicesSeen.{keys_seen}
use Rattle.netlist_turn.specs.Listed.{count_text}
use Rattle.netlist_turn.proofs.listed.count_text.Given as goal

abbrev pub invariant-params : goal.invariant-params
invariant-params l = count_text l.settings (keys_seen l.keys) (params_seen l.rest) ≡ count_text l.settings (keys_seen l.keys) (params_seen l.params)

abbrev pub decreases-params : goal.decreases-params
decreases-params l = length l.rest
