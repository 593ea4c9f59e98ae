use Rattle.std.proofs.Common.{◌≡◌, ◌++◌, drop}
use Rattle.poly_fill.specs.Fills.{distinct, distinct_behind}
use Rattle.poly_fill.proofs.path.distinct_points.Given as goal

abbrev pub invariant-loop-point : goal.invariant-loop-point
invariant-loop-point l = l.kept.items ++ distinct_behind l.last (drop l.point-index l.rest) ≡ distinct l.points
