use Rattle.std.proofs.Common.{◌≡◌, ◌++◌, ◌+◌, length}
use Rattle.std.specs.List.{flat_map}
use Rattle.chip_maker.specs.Inverters.{by_number}
use Rattle.chip_maker.specs.Layout.{row_blocks}
use Rattle.chip_maker.specs.Stream.{block_bytes}
use Rattle.chip_maker.proofs.cells.write_rows.Given as goal

abbrev pub invariant-rows : goal.invariant-rows
invariant-rows l = (l.out.items ++ flat_map block_bytes (by_number row_blocks l.i l.rest) ≡ l.initial.out.items ++ flat_map block_bytes (by_number row_blocks 0 l.rows)) × (l.i + length l.rest ≡ length l.rows)

abbrev pub decreases-rows : goal.decreases-rows
decreases-rows l = length l.rest
