use Rattle.std.proofs.Common.{◌≡◌, ◌+◌, ◌<◌, ◌^◌, ◌++◌, length}
use Rattle.rule_lines.specs.Lines.{lines_of}
use Rattle.spice_cards.specs.Cards.{cut}
use Rattle.spice_cards.specs.Seen.{tokens_seen}
use Rattle.spice_cards.proofs.cards.take_more.Given as goal

abbrev pub invariant-more : goal.invariant-more
invariant-more l =
    (tokens_seen l.tokens.items ++ (cut l.number (lines_of l.rest)).more ≡ tokens_seen l.initial.tokens.items ++ (cut l.line (lines_of l.text)).more)
    × ((cut l.number (lines_of l.rest)).cards ≡ (cut l.line (lines_of l.text)).cards) × (l.number + length l.rest < 2 ^ 64)

abbrev pub decreases-more : goal.decreases-more
decreases-more l = length l.rest
