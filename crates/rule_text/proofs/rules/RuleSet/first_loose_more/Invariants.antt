use Rattle.std.proofs.Common.{◌≡◌, length}
use Rattle.rule_text.specs.Reading.{first_loose_more}
use Rattle.rule_text.specs.Seen.{rules_seen}
use Rattle.rule_text.proofs.rules.RuleSet.first_loose_more.Given as goal

abbrev pub invariant-loop-devices : goal.invariant-loop-devices
invariant-loop-devices l =
    first_loose_more (rules_seen l.self) l.devices l.lines ≡ first_loose_more (rules_seen l.self) l.self.more.items l.fn.lines

abbrev pub decreases-loop-devices : goal.decreases-loop-devices
decreases-loop-devices l = length l.devices
