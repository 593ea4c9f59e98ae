use Rattle.std.proofs.Common.{◌≡◌, length}
use Rattle.rule_layers.specs.Formulas.{formulas}
use Rattle.rule_stages.specs.Selections.{select_of}
use Rattle.select_phase.proofs.Walking.{AreFoundTo, AreNoneElse}
use Rattle.select_phase.proofs.walk.find_selection.Given as goal

abbrev pub invariant-loop-cell : goal.invariant-loop-cell
invariant-loop-cell l = record {
  long : length l.found.items ≡ length l.design.cells;
  to : AreFoundTo l.design (select_of (formulas l.rules.names.items) l.selection) l.cell-index l.found.items;
  else_none : AreNoneElse l.design l.found.items;
}
