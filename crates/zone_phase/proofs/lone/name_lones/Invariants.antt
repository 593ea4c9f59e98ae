use Rattle.std.proofs.Common.{◌≡◌, List, drop, length}
use Rattle.std.specs.List.{All}
use Rattle.rect_sets.specs.Rects.{IsCanonical}
use Rattle.flat_layout.specs.Layers.{Formula}
use Rattle.rule_layers.specs.Formulas.{formulas, formulas_behind}
use Rattle.zone_phase.specs.Lone.{AreLones}
use Rattle.zone_phase.proofs.lone.name_lones.Given as goal

abbrev pub invariant-loop-name : goal.invariant-loop-name
invariant-loop-name l =
    (trees : List Formula) × (formulas_behind trees (drop l.name l.names) ≡ formulas l.names) × (length trees ≡ l.name) × (length l.sets.items ≡ l.name)
    × AreLones l.used.margin l.used.design.now l.used.cell trees l.sets.items × All IsCanonical l.sets.items
