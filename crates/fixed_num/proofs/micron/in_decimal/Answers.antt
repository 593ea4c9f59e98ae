use Rattle.std.proofs.Common.{◌<◌, arith}
use Rattle.std.proofs.Math.Nat.{mod-lt}
use Rattle.fixed_num.proofs.Stripped.{ten_positive}
use Rattle.fixed_num.proofs.micron.in_decimal.Goals as goal

pub nonzero_div-value : goal.nonzero_div-value
nonzero_div-value c = omega (arith, c.pow-unit.ensures, ten_positive c.args.tens)

pub nonzero_rem-rest : goal.nonzero_rem-rest
nonzero_rem-rest c = omega (arith, c.pow-unit.ensures, ten_positive c.args.tens)

pub push_fraction-requires-clause-below : goal.push_fraction-requires-clause-below
push_fraction-requires-clause-below c = let some : 0 < c.pow-unit.result = omega (arith, c.pow-unit.ensures, ten_positive c.args.tens) in mod-lt c.args.value some
