use Rattle.std.proofs.Common.{◌≡◌, map, take}
use Rattle.rule_layers.specs.Meaning.{device_rules, wiring_of}
use Rattle.rule_text.specs.Seen.{rules_seen}
use Rattle.gate_phase.specs.Terminals.{grounds_by, grounds_seen}
use Rattle.gate_phase.proofs.bulks.device_grounds.Given as goal

abbrev pub invariant-loop-number : goal.invariant-loop-number
invariant-loop-number l = map grounds_seen l.found.items ≡ map (grounds_by (wiring_of (rules_seen l.rules))) (take l.number (device_rules (rules_seen l.rules)))
