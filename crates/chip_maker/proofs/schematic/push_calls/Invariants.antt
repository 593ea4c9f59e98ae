use Rattle.std.proofs.Common.{◌≡◌, ◌++◌, ◌+◌, length}
use Rattle.chip_maker.specs.Inverters.{by_number}
use Rattle.chip_maker.specs.Schematic.{row_line}
use Rattle.chip_maker.proofs.schematic.push_calls.Given as goal

abbrev pub invariant-calls : goal.invariant-calls
invariant-calls l = (l.out.items ++ by_number (λ i row. row_line i) l.i l.rest ≡ l.initial.out.items ++ by_number (λ i row. row_line i) 0 l.rows) × (l.i + length l.rest ≡ length l.rows)

abbrev pub decreases-calls : goal.decreases-calls
decreases-calls l = length l.rest
