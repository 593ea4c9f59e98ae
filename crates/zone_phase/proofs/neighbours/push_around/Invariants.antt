use Rattle.std.proofs.Common.{ℕ, ◌<◌, slice_index_or}
use Rattle.cell_context.proofs.Gathering.{no_visit}
use Rattle.zone_phase.specs.Neighbours.{AreNeighbours, BringsMore}
use Rattle.zone_phase.proofs.Nearing.{BringsVisit}
use Rattle.zone_phase.proofs.neighbours.push_around.Given as goal

abbrev pub invariant-loop-visit : goal.invariant-loop-visit
invariant-loop-visit l = record {
  each : AreNeighbours l.used.design.now l.used.uses.now l.memo.list.items;
  more : BringsMore l.used.design.now l.fn.memo.list.items l.memo.list.items;
  found : (k : ℕ) → k < l.visit-index → BringsVisit l.used.design.now l.place (slice_index_or l.visit-items k no_visit) l.memo.list.items;
}
