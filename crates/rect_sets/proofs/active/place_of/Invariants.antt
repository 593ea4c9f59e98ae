use Rattle.std.proofs.Common.{◌≤◌, ◌<◌, ◌≤ℤ◌, length}
use Rattle.rect_sets.specs.Actives.{edge_at}
use Rattle.rect_sets.proofs.active.place_of.Given as goal

abbrev pub decreases-loop-i : goal.decreases-loop-i
decreases-loop-i l = l.i

abbrev pub invariant-loop-i : goal.invariant-loop-i
invariant-loop-i l = record {
  i_in : l.i ≤ length l.active;
  right : l.i < length l.active → l.x ≤ℤ (edge_at l.active l.i).x;
}
