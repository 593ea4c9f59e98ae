use Rattle.std.proofs.Common.{◌≡◌, ◌++◌, ◌+◌, length}
use Rattle.std.specs.List.{flat_map}
use Rattle.chip_maker.specs.Inverters.{by_number}
use Rattle.chip_maker.specs.Layout.{inverter_ref}
use Rattle.chip_maker.specs.Stream.{ref_bytes}
use Rattle.chip_maker.proofs.cells.write_inverter_refs.Given as goal

abbrev pub invariant-inverters : goal.invariant-inverters
invariant-inverters l = (l.out.items ++ flat_map ref_bytes (by_number inverter_ref l.j l.rest) ≡ l.initial.out.items ++ flat_map ref_bytes (by_number inverter_ref 0 l.row)) × (l.j + length l.rest ≡ length l.row)

abbrev pub decreases-inverters : goal.decreases-inverters
decreases-inverters l = length l.rest
