use Rattle.std.proofs.Common.{◌≡◌, ◌++◌, map, take, drop}
use Rattle.net_align.specs.Laid.{name_below}
use Rattle.net_align.proofs.inline.add_nets.Given as goal

abbrev pub invariant-loop-n : goal.invariant-loop-n
invariant-loop-n l = l.nets.items ≡ l.fn.nets.items ++ map (name_below l.k) (drop l.pins (take l.n l.inner))
