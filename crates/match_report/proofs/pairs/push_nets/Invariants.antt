use Rattle.std.proofs.Common.{◌≡◌, ◌++◌, ◌≤◌, ◌+◌, length}
use Rattle.match_report.specs.Pairs.{net_lines}
use Rattle.match_report.proofs.pairs.push_nets.Given as goal

abbrev pub invariant-nets : goal.invariant-nets
invariant-nets l = (l.out.items ++ net_lines l.left l.right l.k l.rest ≡ l.initial.out.items ++ net_lines l.left l.right 0 l.nets) × (l.k + length l.rest ≤ length l.nets)

abbrev pub decreases-nets : goal.decreases-nets
decreases-nets l = length l.rest
