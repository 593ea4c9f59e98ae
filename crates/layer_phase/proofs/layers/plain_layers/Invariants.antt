use Rattle.std.proofs.Common.{◌≡◌, List, drop, length}
use Rattle.flat_layout.specs.Layers.{Formula}
use Rattle.rule_layers.specs.Formulas.{formulas, formulas_behind}
use Rattle.layer_phase.specs.Groups.{ArePlain}
use Rattle.layer_phase.proofs.layers.plain_layers.Given as goal

abbrev pub invariant-loop-rule : goal.invariant-loop-rule
invariant-loop-rule l =
    (trees : List Formula) × (formulas_behind trees (drop l.rule-index l.names) ≡ formulas l.names) × (length trees ≡ l.rule-index) × (length l.layers.items ≡ l.rule-index)
    × ArePlain l.design l.cell trees l.layers.items
