use Rattle.std.proofs.Common.{◌≡◌, length}
use Rattle.spice_cards.specs.Seen.{params_seen as list_seen}
use Rattle.netlist_run.specs.Defined.{params_seen, with_params}
use Rattle.netlist_run.proofs.params.add_all.Given as goal

abbrev pub invariant-params : goal.invariant-params
invariant-params l = with_params (params_seen l.params) l.line (list_seen l.rest) ≡ with_params (params_seen l.fn.params) l.line (list_seen l.all)

abbrev pub decreases-params : goal.decreases-params
decreases-params l = length l.rest
