use Rattle.std.proofs.Common.{◌≡◌, ◌++◌, length, map}
use Rattle.view_cross.specs.Pair.{line_texts}
use Rattle.view_cross.proofs.pair.push_lines.Given as goal

abbrev pub invariant-lines : goal.invariant-lines
invariant-lines l = l.out.items ++ line_texts (map (λ line. line.items) l.rest) ≡ l.initial.out.items ++ line_texts (map (λ line. line.items) l.lines)

abbrev pub decreases-lines : goal.decreases-lines
decreases-lines l = length l.rest
