use Rattle.std.proofs.Common.{◌≡◌, length}
use Rattle.spice_cards.specs.Seen.{params_seen}
use Rattle.netlist_turn.specs.Made.{params_made}
use Rattle.netlist_turn.specs.Seen.{seen}
use Rattle.netlist_turn.proofs.made.Turned.push_params.Given as goal

abbrev pub invariant-params : goal.invariant-params
invariant-params l = params_made l.settings l.row (seen l.self) l.line (params_seen l.rest) ≡ params_made l.settings l.row (seen l.fn.self) l.line (params_seen l.params)

abbrev pub decreases-params : goal.decreases-params
decreases-params l = length l.rest
