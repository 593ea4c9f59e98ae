use Rattle.std.proofs.Common.{◌≡◌, ◌++◌, length}
use Rattle.spice_cards.specs.Seen.{tokens_seen}
use Rattle.netlist_turn.specs.Marked.{models_in}
use Rattle.netlist_turn.proofs.marked.push_models.Given as goal

abbrev pub invariant-tokens : goal.invariant-tokens
invariant-tokens l = tokens_seen l.out.items ++ models_in (tokens_seen l.rest) ≡ tokens_seen l.fn.out.items ++ models_in (tokens_seen l.tokens)

abbrev pub decreases-tokens : goal.decreases-tokens
decreases-tokens l = length l.rest
