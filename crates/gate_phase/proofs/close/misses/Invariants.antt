use Rattle.std.proofs.Common.{take}
use Rattle.gate_phase.specs.Close.{AreApart}
use Rattle.gate_phase.proofs.close.misses.Given as goal

abbrev pub invariant-loop-rect : goal.invariant-loop-rect
invariant-loop-rect l = AreApart l.reach (take l.rect-index l.rect-items) l.other
