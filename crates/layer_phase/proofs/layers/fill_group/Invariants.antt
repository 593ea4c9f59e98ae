use Rattle.std.proofs.Common.{◌≡◌, ◌++◌, length}
use Rattle.rule_layers.specs.Formulas.{formulas}
use Rattle.layer_phase.specs.Groups.{Finds}
use Rattle.layer_phase.proofs.layers.fill_group.Given as goal

abbrev pub invariant-loop-flat : goal.invariant-loop-flat
invariant-loop-flat l =
    (l.fn.flats.items ≡ l.yielded ++ l.flat-iterator.rest.items) × (l.name ≡ length l.yielded)
    × Finds l.group.reach l.work.design.now l.work.cell l.name (formulas l.work.rules.now.names.items) l.fn.layers.items l.layers.items
