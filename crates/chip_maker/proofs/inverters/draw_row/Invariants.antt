use Rattle.std.proofs.Common.{◌≡◌, map}
use Rattle.std.specs.List.{range_with_len}
use Rattle.chip_maker.specs.Inverters.{inverter, random}
use Rattle.chip_maker.proofs.inverters.draw_row.Given as goal

abbrev pub invariant-loop : goal.invariant-loop
invariant-loop l = (l.kinds.items ≡ map (inverter l.fn.state) (range_with_len 0 l.counter)) × (l.state ≡ random l.fn.state l.counter)
