use Rattle.std.proofs.Common.{ℕ, ◌<◌, slice_index_or}
use Rattle.std.specs.List.{All}
use Rattle.cell_context.specs.Over.{IsPiece}
use Rattle.cell_context.proofs.Gathering.{no_visit}
use Rattle.cell_context.specs.Placed.{Grows}
use Rattle.cell_context.proofs.Bringing.{BringsVisit}
use Rattle.cell_context.proofs.placed.push_array.Given as goal

abbrev pub invariant-loop-visit : goal.invariant-loop-visit
invariant-loop-visit l = record {
  pieces : All (IsPiece l.window) l.out.items;
  grows : Grows l.fn.out.items l.out.items;
  found : (k : ℕ) → k < l.visit-index → BringsVisit l.rects l.window l.out.items (slice_index_or l.visit-items k no_visit);
}
