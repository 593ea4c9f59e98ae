use Rattle.std.proofs.Common.{◌≡◌, take}
use Rattle.std.specs.List.{flat_map}
use Rattle.gds_shapes.specs.Data.{point_bytes}
use Rattle.gds_shapes.proofs.references.write_points.Given as goal

abbrev pub invariant-loop-p : goal.invariant-loop-p
invariant-loop-p l = l.body.items ≡ flat_map point_bytes (take l.p-index l.ps)
