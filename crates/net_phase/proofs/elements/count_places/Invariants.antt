use Rattle.std.proofs.Common.{◌≡◌, take}
use Rattle.net_phase.proofs.elements.count_places.Given as goal
use Rattle.net_phase.specs.Elements.{placed_by}

abbrev pub invariant-loop-place : goal.invariant-loop-place
invariant-loop-place l = l.count ≡ placed_by (take l.place-index l.places)
