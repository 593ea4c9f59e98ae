use Rattle.std.proofs.Common.{◌≡◌, ◌++◌, ◌+◌, length}
use Rattle.std.specs.List.{flat_map}
use Rattle.chip_maker.specs.Inverters.{by_number}
use Rattle.chip_maker.specs.Layout.{top_pins}
use Rattle.chip_maker.specs.Stream.{text_bytes}
use Rattle.chip_maker.proofs.cells.write_pins.Given as goal

abbrev pub invariant-pins : goal.invariant-pins
invariant-pins l = (l.out.items ++ flat_map text_bytes (by_number top_pins l.i l.rest) ≡ l.initial.out.items ++ flat_map text_bytes (by_number top_pins 0 l.rows)) × (l.i + length l.rest ≡ length l.rows)

abbrev pub decreases-pins : goal.decreases-pins
decreases-pins l = length l.rest
