use Rattle.std.proofs.Common.{ℕ, ◌<◌, get_or}
use Rattle.std.specs.List.{All}
use Rattle.cell_context.specs.Over.{IsVisit, AreVisitedAt}
use Rattle.cell_context.proofs.flats.visits.Given as goal

abbrev pub invariant-loop-i : goal.invariant-loop-i
invariant-loop-i l = record {
  each : All (IsVisit l.by l.design l.cell l.fn.skip l.window) l.out.items;
  found : (k : ℕ) → k < l.i-index → AreVisitedAt l.by l.design l.cell l.fn.skip l.window (get_or l.i-items k 0) l.out.items;
}
