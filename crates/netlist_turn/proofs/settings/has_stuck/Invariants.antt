use Rattle.std.proofs.Common.{◌≡◌, length}
use Rattle.spice_cards.specs.Seen.{params_seen}
use Rattle.netlist_turn.specs.Made.{has_stuck}
use Rattle.netlist_turn.proofs.settings.has_stuck.Given as goal

abbrev pub invariant-params : goal.invariant-params
invariant-params l = has_stuck l.settings l.row (params_seen l.rest) ≡ has_stuck l.settings l.row (params_seen l.params)

abbrev pub decreases-params : goal.decreases-params
decreases-params l = length l.rest
