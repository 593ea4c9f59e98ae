use Rattle.std.proofs.Common.{◌≡◌, ◌++◌, drop}
use Rattle.poly_fill.specs.Edges.{edges_from, edges_along}
use Rattle.poly_fill.proofs.boundary.edges_along.Given as goal

abbrev pub invariant-loop-to : goal.invariant-loop-to
invariant-loop-to l = l.edges.items ++ edges_from l.from (drop l.to-index l.rest) ≡ edges_along l.points
