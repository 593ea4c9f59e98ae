use Rattle.std.proofs.Common.{◌≡◌, ◌++◌, ◌+◌, length}
use Rattle.view_file.specs.Regions.{region_texts}
use Rattle.view_file.proofs.Small.{AreSmallRegions}
use Rattle.view_file.proofs.regions.push_regions.Given as goal

abbrev pub invariant-regions : goal.invariant-regions
invariant-regions l =
    (l.out.items ++ region_texts l.k l.rest ≡ l.initial.out.items ++ region_texts 0 l.regions)
    × (l.k + length l.rest ≡ length l.regions)
    × AreSmallRegions l.rest

abbrev pub decreases-regions : goal.decreases-regions
decreases-regions l = length l.rest
