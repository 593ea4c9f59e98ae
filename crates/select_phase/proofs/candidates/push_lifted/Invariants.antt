use Rattle.std.specs.List.{All}
use Rattle.cell_context.specs.Over.{IsPiece}
use Rattle.select_phase.proofs.Lifting.{LiftsTo}
use Rattle.select_phase.proofs.candidates.push_lifted.Given as goal

abbrev pub invariant-loop-visit : goal.invariant-loop-visit
invariant-loop-visit l = record {
  pieces : All (IsPiece l.plane) l.out.items;
  lifts : LiftsTo l.place l.rects l.fn.out.items l.visit-items l.visit-index l.out.items;
}
