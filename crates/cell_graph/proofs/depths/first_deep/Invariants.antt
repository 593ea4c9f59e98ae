use Rattle.std.proofs.Common.{◌≤◌}
use Rattle.cell_graph.proofs.depths.first_deep.Given as goal
use Rattle.cell_graph.specs.Firsts.{HasNone}
use Rattle.cell_graph.specs.Rising.{height_in}

abbrev pub invariant-loop-i : goal.invariant-loop-i
invariant-loop-i l = HasNone (λ i. 65 ≤ height_in l.heights i) l.i
