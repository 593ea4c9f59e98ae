use Rattle.std.proofs.Common.{◌≡◌, length}
use Rattle.spice_cards.specs.Seen.{tokens_seen}
use Rattle.netlist_turn.specs.Words.{has_size_option}
use Rattle.netlist_turn.proofs.rows.has_size_option.Given as goal

abbrev pub invariant-tokens : goal.invariant-tokens
invariant-tokens l = has_size_option (tokens_seen l.rest) ≡ has_size_option (tokens_seen l.tokens)

abbrev pub decreases-tokens : goal.decreases-tokens
decreases-tokens l = length l.rest
