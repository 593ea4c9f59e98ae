use Rattle.std.proofs.Common.{◌≡◌, take}
use Rattle.rect_sets.specs.EdgeCuts.{edges_left, edges_right}
use Rattle.rect_sets.proofs.edge_cuts.parted.Given as goal

abbrev pub invariant-loop-edge : goal.invariant-loop-edge
invariant-loop-edge l = record { low : l.low.items ≡ edges_left l.cut.at (take l.edge-index l.edges); high : l.high.items ≡ edges_right l.cut.at (take l.edge-index l.edges) }
