use Rattle.std.proofs.Common.{◌≡◌, ◌++◌, drop, length, take}
use Rattle.view_labels.specs.Logs.{texts_of}
use Rattle.view_labels.proofs.lines.push_some.Given as goal

abbrev pub invariant-lines : goal.invariant-lines
invariant-lines l = texts_of l.lines.items ++ take l.left (texts_of l.rest) ≡ texts_of l.initial.lines.items ++ take l.count (drop l.from (texts_of l.all))

abbrev pub decreases-lines : goal.decreases-lines
decreases-lines l = length l.rest
