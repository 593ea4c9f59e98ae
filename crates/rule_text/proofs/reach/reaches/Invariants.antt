use Rattle.std.proofs.Common.{◌≡◌, drop}
use Rattle.rule_text.specs.Reaches.{reaches, reaches_behind}
use Rattle.rule_text.proofs.reach.reaches.Given as goal

abbrev pub invariant-loop-rule : goal.invariant-loop-rule
invariant-loop-rule l = reaches_behind l.found.items (drop l.rule-index l.names) ≡ reaches l.names
