use Rattle.std.proofs.Common.{refl, arith}
use Rattle.std.proofs.lemmas.Int.{ints}
use Rattle.flat_slow.proofs.moves.turned.Goals as goal

pub returns-in-R0-clause-x : goal.returns-in-R0-clause-x
returns-in-R0-clause-x c = rw c.in-R0.is refl

pub returns-in-R0-clause-y : goal.returns-in-R0-clause-y
returns-in-R0-clause-y c = rw c.in-R0.is refl

pub returns-in-R90-clause-x : goal.returns-in-R90-clause-x
returns-in-R90-clause-x c = rw c.in-R90.is (omega (arith, ints))

pub returns-in-R90-clause-y : goal.returns-in-R90-clause-y
returns-in-R90-clause-y c = rw c.in-R90.is (omega (arith, ints))

pub returns-in-R180-clause-x : goal.returns-in-R180-clause-x
returns-in-R180-clause-x c = rw c.in-R180.is (omega (arith, ints))

pub returns-in-R180-clause-y : goal.returns-in-R180-clause-y
returns-in-R180-clause-y c = rw c.in-R180.is (omega (arith, ints))

pub returns-in-R270-clause-x : goal.returns-in-R270-clause-x
returns-in-R270-clause-x c = rw c.in-R270.is (omega (arith, ints))

pub returns-in-R270-clause-y : goal.returns-in-R270-clause-y
returns-in-R270-clause-y c = rw c.in-R270.is (omega (arith, ints))

pub returns-in-M0-clause-x : goal.returns-in-M0-clause-x
returns-in-M0-clause-x c = rw c.in-M0.is (omega (arith, ints))

pub returns-in-M0-clause-y : goal.returns-in-M0-clause-y
returns-in-M0-clause-y c = rw c.in-M0.is (omega (arith, ints))

pub returns-in-M90-clause-x : goal.returns-in-M90-clause-x
returns-in-M90-clause-x c = rw c.in-M90.is (omega (arith, ints))

pub returns-in-M90-clause-y : goal.returns-in-M90-clause-y
returns-in-M90-clause-y c = rw c.in-M90.is (omega (arith, ints))

pub returns-in-M180-clause-x : goal.returns-in-M180-clause-x
returns-in-M180-clause-x c = rw c.in-M180.is (omega (arith, ints))

pub returns-in-M180-clause-y : goal.returns-in-M180-clause-y
returns-in-M180-clause-y c = rw c.in-M180.is (omega (arith, ints))

pub returns-in-M270-clause-x : goal.returns-in-M270-clause-x
returns-in-M270-clause-x c = rw c.in-M270.is (omega (arith, ints))

pub returns-in-M270-clause-y : goal.returns-in-M270-clause-y
returns-in-M270-clause-y c = rw c.in-M270.is (omega (arith, ints))
