use Rattle.std.proofs.Common.{◌≡◌, ◌++◌, take}
use Rattle.std.specs.List.{flat_map}
use Rattle.rule_text.specs.Seen.{rules_seen}
use Rattle.deep_flow.specs.Bad.{told_of}
use Rattle.deep_flow.proofs.bad.push_cell.Given as goal

abbrev pub invariant-loop-gate : goal.invariant-loop-gate
invariant-loop-gate l = l.bad.items ≡ l.fn.bad.items ++ flat_map (told_of (rules_seen l.rules) l.cell) (take l.gate-index l.gates)
