use Rattle.std.proofs.Common.{map, take}
use Rattle.gds_elements.specs.Reading.{shape_seen}
use Rattle.gds_layout.specs.Piles.{ArePiles}
use Rattle.gds_layout.proofs.Layering.{Covers}
use Rattle.gds_layout.proofs.layers.piles_of.Given as goal

abbrev pub invariant-loop-shape : goal.invariant-loop-shape
invariant-loop-shape l = ArePiles l.piles × Covers (map shape_seen (take l.shape-index l.shapes)) l.piles.list.items
