use Rattle.std.proofs.Common.{◌≡◌, length}
use Rattle.spice_cards.specs.Seen.{tokens_seen}
use Rattle.netlist_run.specs.Defined.{params_seen, with_scales}
use Rattle.netlist_run.proofs.params.take_scales.Given as goal

abbrev pub invariant-tokens : goal.invariant-tokens
invariant-tokens l = with_scales (params_seen l.params) l.line (tokens_seen l.rest) ≡ with_scales (params_seen l.fn.params) l.line (tokens_seen l.tokens)

abbrev pub decreases-tokens : goal.decreases-tokens
decreases-tokens l = length l.rest
