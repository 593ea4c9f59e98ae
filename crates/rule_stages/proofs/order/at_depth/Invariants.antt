use Rattle.std.proofs.Common.{◌≡◌, ◌++◌, drop, get_or}
use Rattle.std.specs.Prelude.{◌==◌}
use Rattle.std.specs.List.{filter}
use Rattle.rule_text.specs.Seen.{rules_seen}
use Rattle.rule_stages.specs.Depths.{depths}
use Rattle.rule_stages.specs.Stages.{at_depth}
use Rattle.rule_stages.proofs.order.at_depth.Given as goal

abbrev pub invariant-loop-select : goal.invariant-loop-select
invariant-loop-select l =
    l.found.items ++ filter (λ s. get_or (depths (rules_seen l.rules)) s.name 0 == l.depth) (drop l.select-index l.rules.selects.items) ≡ at_depth (rules_seen l.rules) l.depth
