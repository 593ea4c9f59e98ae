use Rattle.std.proofs.Common.{take}
use Rattle.gate_phase.specs.Indexes.{AreMetOf}
use Rattle.gate_phase.proofs.met.met_rects.Given as goal

abbrev pub invariant-loop-rect : goal.invariant-loop-rect
invariant-loop-rect l = AreMetOf (take l.rect-index l.rects) l.window l.out.items
