use Rattle.std.proofs.Common.{◌≡◌, ◌++◌, map, take}
use Rattle.net_align.specs.Sights.{net_of}
use Rattle.net_align.proofs.sights.add_pins.Given as goal

abbrev pub invariant-loop-pin : goal.invariant-loop-pin
invariant-loop-pin l = l.nets.items ≡ l.fn.nets.items ++ map (net_of l.at) (take l.pin-index l.pins)
