use Rattle.rule_layers.specs.Formulas.{formulas}
use Rattle.layer_phase.specs.Groups.{AreDone}
use Rattle.layer_phase.proofs.layers.name_layers.Given as goal

abbrev pub invariant-loop-group : goal.invariant-loop-group
invariant-loop-group l = AreDone l.work.design.now l.work.cell (formulas l.work.rules.now.names.items) l.groups l.group-index l.layers.items
