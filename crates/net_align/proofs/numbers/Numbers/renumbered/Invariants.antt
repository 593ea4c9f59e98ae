use Rattle.std.proofs.Common.{◌≡◌, map, take}
use Rattle.net_align.specs.Sights.{new_of}
use Rattle.net_align.proofs.numbers.Numbers.renumbered.Given as goal

abbrev pub invariant-loop-n : goal.invariant-loop-n
invariant-loop-n l = l.new.items ≡ map (new_of l.self.places.items) (take l.n-index l.list)
