use Rattle.std.proofs.Common.{◌≡◌, ◌-◌, ◌*◌, map}
use Rattle.std.specs.List.{range_with_len}
use Rattle.chip_maker.specs.Inverters.{random, row}
use Rattle.chip_maker.proofs.inverters.rows.Given as goal

abbrev pub invariant-loop-i : goal.invariant-loop-i
invariant-loop-i l = (l.made.items ≡ map (row l.n l.seed) (range_with_len 0 l.i)) × (l.state ≡ random l.seed (l.n - (l.n - 100 * l.i)))
