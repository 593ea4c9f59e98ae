use Rattle.std.proofs.Common.{◌≡◌, ◌+◌, ◌<◌, ◌^◌, length}
use Rattle.rule_lines.specs.Lines.{lines_of}
use Rattle.spice_cards.specs.Cards.{cut, early_more_in}
use Rattle.spice_cards.proofs.cards.skip_passed.Given as goal

abbrev pub invariant-passed : goal.invariant-passed
invariant-passed l =
    (cut l.number (lines_of l.rest) ≡ cut l.line (lines_of l.text)) × (early_more_in l.number (lines_of l.rest) ≡ early_more_in l.line (lines_of l.text))
    × (l.number + length l.rest < 2 ^ 64)

abbrev pub decreases-passed : goal.decreases-passed
decreases-passed l = length l.rest
