use Rattle.std.proofs.Common.{arith}
use Rattle.std.proofs.lemmas.Int.{ints}
use Rattle.flat_slow.proofs.Turns.{twice_x, twice_y}
use Rattle.flat_slow.proofs.moves.unturned.Goals as goal

pub returns-in-R90-clause-x : goal.returns-in-R90-clause-x
returns-in-R90-clause-x c = let x = c.turned.ensures.x in let y = c.turned.ensures.y in rw c.in-R90.is (omega (arith, ints))

pub returns-in-R90-clause-y : goal.returns-in-R90-clause-y
returns-in-R90-clause-y c = let x = c.turned.ensures.x in let y = c.turned.ensures.y in rw c.in-R90.is (omega (arith, ints))

pub returns-in-R270-clause-x : goal.returns-in-R270-clause-x
returns-in-R270-clause-x c = let x = c.turned-in-R270.ensures.x in let y = c.turned-in-R270.ensures.y in rw c.in-R270.is (omega (arith, ints))

pub returns-in-R270-clause-y : goal.returns-in-R270-clause-y
returns-in-R270-clause-y c = let x = c.turned-in-R270.ensures.x in let y = c.turned-in-R270.ensures.y in rw c.in-R270.is (omega (arith, ints))

pub returns-in_default-clause-x : goal.returns-in_default-clause-x
returns-in_default-clause-x c = twice_x c.args.turn c.args.s.x c.args.s.y _ _ c.in_default.not-R90 c.in_default.not-R270 c.turned-in_default.ensures.x c.turned-in_default.ensures.y

pub returns-in_default-clause-y : goal.returns-in_default-clause-y
returns-in_default-clause-y c = twice_y c.args.turn c.args.s.x c.args.s.y _ _ c.in_default.not-R90 c.in_default.not-R270 c.turned-in_default.ensures.x c.turned-in_default.ensures.y
