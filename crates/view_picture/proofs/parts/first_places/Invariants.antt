use Rattle.std.proofs.Common.{◌≡◌, ◌++◌, length}
use Rattle.device_merge.specs.Parts.{place_lists}
use Rattle.view_netlist.specs.Drawing.{AreSmallPlaces}
use Rattle.view_picture.specs.Parts.{first_places}
use Rattle.view_picture.proofs.parts.first_places.Given as goal

abbrev pub invariant-parts : goal.invariant-parts
invariant-parts l =
    (l.out.items ++ first_places l.places (place_lists l.rest) ≡ first_places l.places (place_lists l.parts))
    × AreSmallPlaces l.out.items

abbrev pub decreases-parts : goal.decreases-parts
decreases-parts l = length l.rest
