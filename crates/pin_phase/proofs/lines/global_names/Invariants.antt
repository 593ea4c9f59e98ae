use Rattle.std.proofs.Common.{◌≡◌, [], take}
use Rattle.rule_layers.specs.Meaning.{globals_behind}
use Rattle.pin_phase.proofs.lines.global_names.Given as goal

abbrev pub invariant-loop-line : goal.invariant-loop-line
invariant-loop-line l = l.names ≡ globals_behind [] (take l.line-index l.rules.globals.items)
