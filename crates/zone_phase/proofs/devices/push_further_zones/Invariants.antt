use Rattle.std.proofs.Common.{ℕ, List, ◌++◌, map, take}
use Rattle.std.specs.List.{All}
use Rattle.rect_sets.specs.Rects.{IsCanonical}
use Rattle.flat_layout.specs.Layers.{Formula}
use Rattle.cell_graph.specs.Linked.{Linked}
use Rattle.zone_phase.specs.Names.{AreDeviceOpens, AreNameOpens, further_names}
use Rattle.zone_phase.proofs.devices.push_further_zones.Given as goal

abbrev pub invariant-loop-rule : goal.invariant-loop-rule
invariant-loop-rule l = record {
  zones : (n : ℕ) (d : Linked) (cell : ℕ) (trees : List Formula) (lists : List (List ℕ)) → AreNameOpens n d cell trees l.sets → AreDeviceOpens n d cell trees lists l.fn.zones.items
      → AreDeviceOpens n d cell trees (lists ++ map further_names (take l.rule-index l.rules)) l.zones.items;
  canonical : All IsCanonical l.zones.items;
}
