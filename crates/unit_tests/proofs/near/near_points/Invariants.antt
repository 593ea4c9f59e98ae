use Rattle.std.specs.List.{All}
use Rattle.geo_base.specs.Near.{IsLongPoint}
use Rattle.unit_tests.proofs.near.near_points.Given as goal

abbrev pub invariant-loop-corner : goal.invariant-loop-corner
invariant-loop-corner l = All IsLongPoint l.out.items
