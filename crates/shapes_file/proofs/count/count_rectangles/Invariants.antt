use Rattle.std.proofs.Common.{◌≡◌, take}
use Rattle.std.specs.List.{sum_by}
use Rattle.rule_text.specs.Seen.{rules_seen}
use Rattle.shapes_file.specs.File.{count_in}
use Rattle.shapes_file.proofs.count.count_rectangles.Given as goal

abbrev pub invariant-loop-cell : goal.invariant-loop-cell
invariant-loop-cell l = l.count ≡ sum_by (count_in l.layers (rules_seen l.rules)) (take l.cell-index l.cells)
