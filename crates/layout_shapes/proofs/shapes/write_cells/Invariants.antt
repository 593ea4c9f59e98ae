use Rattle.std.proofs.Common.{◌≡◌, ◌++◌, take, map}
use Rattle.std.specs.List.{All, flat_map}
use Rattle.gds_records.specs.Records.{record_bytes}
use Rattle.gds_shapes.specs.Accepted.{FitsCell}
use Rattle.gds_shapes.specs.Stream.{structure}
use Rattle.rule_text.specs.Seen.{rules_seen}
use Rattle.layout_shapes.specs.Written.{drawn}
use Rattle.layout_shapes.proofs.shapes.write_cells.Given as goal

abbrev pub invariant-loop-cell : goal.invariant-loop-cell
invariant-loop-cell l = record {
  written : l.out.items ≡ l.fn.out.items ++ flat_map record_bytes (flat_map structure (map (drawn l.layout (rules_seen l.rules) l.layers) (take l.cell-index l.cells)));
  fits : All FitsCell (map (drawn l.layout (rules_seen l.rules) l.layers) (take l.cell-index l.cells));
}
