use Rattle.std.proofs.Common.{◌≡◌, ◌++◌, drop}
use Rattle.rule_text.specs.Seen.{rules_seen}
use Rattle.depth_designs.specs.Stages.{stages_by}
use Rattle.staged_designs.specs.Depths.{stage_keys}
use Rattle.depth_designs.proofs.depth.keys_of.Given as goal

abbrev pub invariant-loop-select : goal.invariant-loop-select
invariant-loop-select l =
    l.keys.items ++ stage_keys (stages_by (rules_seen l.rules) (drop l.select-index l.selected)) ≡ stage_keys (stages_by (rules_seen l.rules) l.selected)
