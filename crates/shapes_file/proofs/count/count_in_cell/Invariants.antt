use Rattle.std.proofs.Common.{◌≡◌, take, length}
use Rattle.std.specs.List.{sum_by}
use Rattle.rule_text.specs.declared.rules.Output.{Output}
use Rattle.layout_shapes.specs.Written.{line_of}
use Rattle.shapes_file.proofs.count.count_in_cell.Given as goal

abbrev pub invariant-loop-line : goal.invariant-loop-line
invariant-loop-line l = l.count ≡ sum_by (λ (o : Output). length (line_of l.layers l.cell o).1) (take l.line-index l.line-items)
