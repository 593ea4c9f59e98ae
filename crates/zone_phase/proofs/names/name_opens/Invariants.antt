use Rattle.std.proofs.Common.{◌≡◌, ◌++◌, ℕ, List, drop, length}
use Rattle.std.specs.List.{All}
use Rattle.rect_sets.specs.Rects.{IsCanonical}
use Rattle.cell_graph.specs.Linked.{Linked}
use Rattle.flat_layout.specs.Layers.{Formula}
use Rattle.rule_layers.specs.Formulas.{formulas, formulas_behind}
use Rattle.zone_phase.specs.Names.{AreInputOpens, AreInputsKept, AreNameOpens}
use Rattle.zone_phase.proofs.names.name_opens.Given as goal

abbrev pub invariant-loop-input : goal.invariant-loop-input
invariant-loop-input l =
    (trees : List Formula) × (formulas_behind trees (drop (length l.sets.items) l.names) ≡ formulas l.names) × (length trees ≡ length l.sets.items)
    × (length l.yielded ≡ length l.sets.items) × (l.fn.inputs.items ≡ l.yielded ++ l.input-iterator.rest.items)
    × ((n : ℕ) (d : Linked) (cell : ℕ) → AreInputOpens n d cell (formulas l.names) l.fn.inputs.items → AreNameOpens n d cell trees l.sets.items)
    × AreInputsKept trees l.fn.inputs.items l.sets.items × All IsCanonical l.sets.items
