use Rattle.std.proofs.Common.{◌≡◌, ◌++◌, ◌+◌, length}
use Rattle.chip_maker.specs.Inverters.{by_number}
use Rattle.chip_maker.specs.Schematic.{row_text}
use Rattle.chip_maker.proofs.schematic.push_rows.Given as goal

abbrev pub invariant-rows : goal.invariant-rows
invariant-rows l = (l.out.items ++ by_number row_text l.i l.rest ≡ l.initial.out.items ++ by_number row_text 0 l.rows) × (l.i + length l.rest ≡ length l.rows)

abbrev pub decreases-rows : goal.decreases-rows
decreases-rows l = length l.rest
