use Rattle.net_align.specs.Side.{AreGoing}
use Rattle.net_align.proofs.side.going.Given as goal

abbrev pub invariant-loop-c : goal.invariant-loop-c
invariant-loop-c l = AreGoing l.numbers l.holds l.c l.goes.items
