use Rattle.std.proofs.Common.{◌≡◌, map, take}
use Rattle.std.specs.List.{flat_map}
use Rattle.rule_text.specs.Seen.{rules_seen}
use Rattle.net_phase.proofs.wires.joins_by.Given as goal
use Rattle.net_phase.specs.Wires.{join_line, joined_by}

abbrev pub invariant-loop-line : goal.invariant-loop-line
invariant-loop-line l = map join_line l.joins.items ≡ flat_map (joined_by (rules_seen l.rules)) (take l.line-index l.lines)
