-- The two sides of a comparison stay sides of one when merged.
use Rattle.merge_laws.proofs.Kept.{good_merged}
use Rattle.merge_laws.proofs.Nets.{circuit_back, circuit_there}
use Rattle.merge_laws.specs.Grouped.{SidesMergedLaw, merged_circuit}

pub merged_sides : SidesMergedLaw
merged_sides left right s = record {
  there = λ k c is. let o = circuit_back left k c is in let d = s.there k o.0 o.1 in (merged_circuit d.0, circuit_there right k d.0 d.1);
  back = λ k d is. let o = circuit_back right k d is in let c = s.back k o.0 o.1 in (merged_circuit c.0, circuit_there left k c.0 c.1);
  left_good = let g = s.left_good in (g.0, good_merged left g.0 g.1);
  right_good = let g = s.right_good in (g.0, good_merged right g.0 g.1);
}
