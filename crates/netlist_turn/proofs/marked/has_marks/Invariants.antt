use Rattle.std.proofs.Common.{◌≡◌, length}
use Rattle.spice_cards.specs.Seen.{tokens_seen}
use Rattle.netlist_turn.specs.Marked.{has_marks}
use Rattle.netlist_turn.proofs.marked.has_marks.Given as goal

abbrev pub invariant-tokens : goal.invariant-tokens
invariant-tokens l = has_marks (tokens_seen l.rest) ≡ has_marks (tokens_seen l.tokens)

abbrev pub decreases-tokens : goal.decreases-tokens
decreases-tokens l = length l.rest
