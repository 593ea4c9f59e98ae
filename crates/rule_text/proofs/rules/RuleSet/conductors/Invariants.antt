use Rattle.std.proofs.Common.{◌≡◌, length}
use Rattle.rule_text.specs.Reading.{TellsConductors}
use Rattle.rule_text.specs.Seen.{rules_seen}
use Rattle.rule_text.proofs.rules.RuleSet.conductors.Given as goal

abbrev pub invariant-loop-layer : goal.invariant-loop-layer
invariant-loop-layer l = (length l.table.items ≡ l.layer) × TellsConductors l.table.items (rules_seen l.self)
