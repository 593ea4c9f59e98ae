use Rattle.std.proofs.Common.{◌≡◌, List, drop, length}
use Rattle.flat_layout.specs.Layers.{Formula}
use Rattle.rule_layers.specs.Formulas.{formulas, formulas_behind}
use Rattle.layer_phase.specs.Names.{AreFlats}
use Rattle.layer_phase.proofs.flats.name_flats.Given as goal

abbrev pub invariant-loop-rule : goal.invariant-loop-rule
invariant-loop-rule l =
    (trees : List Formula) × (formulas_behind trees (drop l.rule-index l.names) ≡ formulas l.names) × (length trees ≡ l.rule-index) × (length l.flats.items ≡ l.rule-index)
    × AreFlats l.design l.cell l.looks trees l.flats.items
