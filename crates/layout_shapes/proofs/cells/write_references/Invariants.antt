use Rattle.std.proofs.Common.{◌≡◌, ◌++◌, take, map}
use Rattle.std.specs.List.{flat_map}
use Rattle.gds_records.specs.Records.{record_bytes}
use Rattle.gds_shapes.specs.References.{reference}
use Rattle.layout_shapes.specs.Written.{ref_of}
use Rattle.layout_shapes.proofs.cells.write_references.Given as goal

abbrev pub invariant-loop-place : goal.invariant-loop-place
invariant-loop-place l = l.out.items ≡ l.fn.out.items ++ flat_map record_bytes (flat_map reference (map (ref_of l.design) (take l.place-index l.place-items)))
