use Rattle.std.proofs.Common.{◌≡◌, take}
use Rattle.cell_context.proofs.Near.{chosen}
use Rattle.gate_phase.proofs.met.rects_at.Given as goal

abbrev pub invariant-loop-i : goal.invariant-loop-i
invariant-loop-i l = l.out.items ≡ chosen l.rects (take l.i-index l.near)
