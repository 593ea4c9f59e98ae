use Rattle.std.proofs.Common.{◌≡◌, take}
use Rattle.std.specs.List.{flat_map}
use Rattle.rule_text.specs.Seen.{rules_seen}
use Rattle.deep_flow.proofs.Badly.{told_in}
use Rattle.deep_flow.proofs.bad.bad_gates.Given as goal

abbrev pub invariant-loop-cell : goal.invariant-loop-cell
invariant-loop-cell l = l.bad.items ≡ flat_map (told_in (rules_seen l.rules) l.gates) (take l.cell-index l.design.order)
