use Rattle.std.proofs.Common.{ℕ, List, ◌++◌, map, take}
use Rattle.std.specs.List.{All}
use Rattle.rect_sets.specs.Rects.{IsCanonical}
use Rattle.flat_layout.specs.Layers.{Formula}
use Rattle.cell_graph.specs.Linked.{Linked}
use Rattle.zone_phase.specs.Lone.{AreLones, AreRegionLones, mos_region}
use Rattle.zone_phase.proofs.lone.push_mos_lones.Given as goal

abbrev pub invariant-loop-rule : goal.invariant-loop-rule
invariant-loop-rule l = record {
  lones : (n : ℕ) (d : Linked) (cell : ℕ) (trees regions : List Formula) → AreLones n d cell trees l.sets → AreRegionLones n d cell regions l.fn.lones.items
      → AreRegionLones n d cell (regions ++ map (mos_region trees) (take l.rule-index l.rules)) l.lones.items;
  canonical : All IsCanonical l.lones.items;
}
