use Rattle.std.proofs.Common.{take}
use Rattle.cell_graph.specs.Linked.{plain}
use Rattle.rule_text.specs.Seen.{rules_seen}
use Rattle.layout_shapes.specs.Wide.{IsLeast, IsWideCell}
use Rattle.layout_shapes.proofs.wide.least_wide.Given as goal

abbrev pub invariant-loop-cell : goal.invariant-loop-cell
invariant-loop-cell l = IsLeast (IsWideCell (plain l.design) (rules_seen l.rules) l.layers) (take l.cell-index l.cells) l.least
