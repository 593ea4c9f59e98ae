use Rattle.std.proofs.Common.{◌≡◌, ◌≤◌, drop, length}
use Rattle.std.specs.List.{All}
use Rattle.rule_text.specs.Seen.{rules_seen}
use Rattle.rule_stages.specs.Depths.{depths, depths_behind}
use Rattle.rule_stages.proofs.order.depths.Given as goal

abbrev pub invariant-loop-rule : goal.invariant-loop-rule
invariant-loop-rule l = (depths_behind l.rules.selects.items l.found.items (drop l.rule-index l.rules.names.items) ≡ depths (rules_seen l.rules))
    × All (λ n. n ≤ length l.found.items) l.found.items
