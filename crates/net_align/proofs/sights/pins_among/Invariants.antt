use Rattle.std.proofs.Common.{◌≡◌, take, filter}
use Rattle.net_align.specs.Sights.{has_number}
use Rattle.net_align.proofs.sights.pins_among.Given as goal

abbrev pub invariant-loop-pin : goal.invariant-loop-pin
invariant-loop-pin l = l.own.items ≡ filter (has_number l.nets) (take l.pin-index l.pins)
