use Rattle.std.proofs.Common.{◌≡◌, ◌++◌, ◌+◌, length}
use Rattle.std.specs.List.{flat_map}
use Rattle.chip_maker.specs.Inverters.{by_number}
use Rattle.chip_maker.specs.Layout.{branches, drawn}
use Rattle.chip_maker.specs.Stream.{rect_bytes}
use Rattle.chip_maker.proofs.cells.write_supply.Given as goal

abbrev pub invariant-branches : goal.invariant-branches
invariant-branches l = (l.out.items ++ flat_map (rect_bytes (drawn 5)) (by_number branches l.i l.rest) ≡ l.initial.out.items ++ flat_map (rect_bytes (drawn 5)) (by_number branches 0 l.rows)) × (l.i + length l.rest ≡ length l.rows)

abbrev pub decreases-branches : goal.decreases-branches
decreases-branches l = length l.rest
