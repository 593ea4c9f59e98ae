use Rattle.std.proofs.Common.{◌≡◌, ◌++◌, ◌+◌, length}
use Rattle.chip_maker.specs.Inverters.{by_number}
use Rattle.chip_maker.specs.Schematic.{pin_words}
use Rattle.chip_maker.proofs.schematic.push_all_pins.Given as goal

abbrev pub invariant-pins : goal.invariant-pins
invariant-pins l = (l.out.items ++ by_number (λ i row. pin_words i) l.i l.rest ≡ l.initial.out.items ++ by_number (λ i row. pin_words i) 0 l.rows) × (l.i + length l.rest ≡ length l.rows)

abbrev pub decreases-pins : goal.decreases-pins
decreases-pins l = length l.rest
