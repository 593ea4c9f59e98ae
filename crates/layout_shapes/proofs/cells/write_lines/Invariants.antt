use Rattle.std.proofs.Common.{◌≡◌, ◌++◌, take, map}
use Rattle.std.specs.List.{All, flat_map}
use Rattle.gds_records.specs.Records.{record_bytes}
use Rattle.gds_shapes.specs.Stream.{FitsLayer, layer}
use Rattle.layout_shapes.specs.Written.{line_of}
use Rattle.layout_shapes.proofs.cells.write_lines.Given as goal

abbrev pub invariant-loop-line : goal.invariant-loop-line
invariant-loop-line l = record {
  written : l.out.items ≡ l.fn.out.items ++ flat_map record_bytes (flat_map layer (map (line_of l.layers l.cell) (take l.line-index l.line-items)));
  fits : All FitsLayer (map (line_of l.layers l.cell) (take l.line-index l.line-items));
}
