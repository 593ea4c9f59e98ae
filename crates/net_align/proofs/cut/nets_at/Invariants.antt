use Rattle.std.proofs.Common.{◌≡◌, map, take}
use Rattle.net_align.specs.Sights.{new_of, net_of}
use Rattle.net_align.proofs.cut.nets_at.Given as goal

abbrev pub invariant-loop-pin : goal.invariant-loop-pin
invariant-loop-pin l = l.found.items ≡ map (new_of l.nets.places.items) (map (net_of l.at) (take l.pin-index l.pins))
