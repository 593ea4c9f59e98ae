use Rattle.std.proofs.Common.{◌≡◌, ◌++◌, ◌+◌, length}
use Rattle.chip_maker.specs.Inverters.{by_number}
use Rattle.chip_maker.specs.Schematic.{inverter_line}
use Rattle.chip_maker.proofs.schematic.push_inverters.Given as goal

abbrev pub invariant-inverters : goal.invariant-inverters
invariant-inverters l = (l.out.items ++ by_number (inverter_line (length l.row)) l.j l.rest ≡ l.initial.out.items ++ by_number (inverter_line (length l.row)) 0 l.row) × (l.j + length l.rest ≡ length l.row)

abbrev pub decreases-inverters : goal.decreases-inverters
decreases-inverters l = length l.rest
