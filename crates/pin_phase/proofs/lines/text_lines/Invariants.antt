use Rattle.std.proofs.Common.{◌≡◌, map, take}
use Rattle.std.specs.List.{flat_map}
use Rattle.rule_text.specs.Seen.{rules_seen}
use Rattle.pin_phase.specs.Lines.{label}
use Rattle.pin_phase.proofs.Lining.{labels_at}
use Rattle.pin_phase.proofs.lines.text_lines.Given as goal

abbrev pub invariant-loop-line : goal.invariant-loop-line
invariant-loop-line l = map label l.lines.items ≡ flat_map (labels_at (rules_seen l.rules)) (take l.line-index l.rules.connects.items)
