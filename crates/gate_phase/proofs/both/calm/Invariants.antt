use Rattle.std.proofs.Common.{take}
use Rattle.std.specs.List.{All}
use Rattle.geo_base.specs.Rects.{IsRect}
use Rattle.gate_phase.proofs.Calming.{AreStirring}
use Rattle.gate_phase.proofs.both.calm.Given as goal

abbrev pub invariant-loop-rect : goal.invariant-loop-rect
invariant-loop-rect l = record {
  rects : All IsRect l.stirred.items;
  stirring : AreStirring l.reach l.zone (take l.rect-index l.rect-items) l.stirred.items;
}
