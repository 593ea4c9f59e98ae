use Rattle.std.proofs.Common.{◌≡◌, ◌<◌, ◌++◌, length}
use Rattle.std.specs.List.{All}
use Rattle.match_report.specs.Gates.{gate_lines}
use Rattle.match_report.proofs.gates.push_gates.Given as goal

abbrev pub invariant-gates : goal.invariant-gates
invariant-gates l = (l.out.items ++ gate_lines l.design l.rest ≡ l.initial.out.items ++ gate_lines l.design l.bad) × All (λ x. x.cell < length l.design.cells) l.rest

abbrev pub decreases-gates : goal.decreases-gates
decreases-gates l = length l.rest
