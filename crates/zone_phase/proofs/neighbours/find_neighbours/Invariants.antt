use Rattle.zone_phase.specs.Neighbours.{AreAllNear, AreNeighbours}
use Rattle.zone_phase.proofs.neighbours.find_neighbours.Given as goal

abbrev pub invariant-loop-at : goal.invariant-loop-at
invariant-loop-at l = record {
  each : AreNeighbours l.used.design.now l.used.uses.now l.memo.list.items;
  all : AreAllNear l.used.design.now l.grown l.used.uses.now l.at l.memo.list.items;
}
