use Rattle.std.proofs.Common.{◌≡◌, ◌++◌, take}
use Rattle.std.specs.List.{flat_map}
use Rattle.gds_records.specs.Records.{record_bytes}
use Rattle.gds_shapes.specs.Stream.{boundary}
use Rattle.gds_shapes.proofs.shapes.write_layer.Given as goal

abbrev pub invariant-loop-rect : goal.invariant-loop-rect
invariant-loop-rect l = l.out.items ≡ l.fn.out.items ++ flat_map record_bytes (flat_map (λ r. boundary l.key r) (take l.rect-index l.rects))
