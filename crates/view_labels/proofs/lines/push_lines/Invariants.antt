use Rattle.std.proofs.Common.{◌≡◌, ◌++◌, length}
use Rattle.rule_lines.specs.Lines.{lines_of}
use Rattle.view_labels.specs.Logs.{texts_of}
use Rattle.view_labels.proofs.lines.push_lines.Given as goal

abbrev pub invariant-lines : goal.invariant-lines
invariant-lines l = texts_of l.lines.items ++ lines_of l.rest ≡ texts_of l.initial.lines.items ++ lines_of l.text

abbrev pub decreases-lines : goal.decreases-lines
decreases-lines l = length l.rest
