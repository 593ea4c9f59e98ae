use Rattle.std.proofs.Common.{◌≡◌, take}
use Rattle.rect_sets.specs.EdgeCuts.{edges_below, edges_above}
use Rattle.rect_sets.proofs.edge_cuts.level_sides.Given as goal

abbrev pub invariant-loop-edge : goal.invariant-loop-edge
invariant-loop-edge l = record { low : l.low.items ≡ edges_below l.cut.at (take l.edge-index l.edges); high : l.high.items ≡ edges_above l.cut.at (take l.edge-index l.edges) }
