use Rattle.std.proofs.Common.{◌≡◌, take, false}
use Rattle.std.specs.List.{list_any}
use Rattle.layout_shapes.specs.Wide.{is_wide_line}
use Rattle.layout_shapes.specs.Written.{line_of}
use Rattle.rule_text.specs.declared.rules.Output.{Output}
use Rattle.layout_shapes.proofs.wide.has_wide_line.Given as goal

abbrev pub invariant-loop-line : goal.invariant-loop-line
invariant-loop-line l = list_any (λ (o : Output). is_wide_line (line_of l.layers l.cell o).1) (take l.line-index l.line-items) ≡ false
