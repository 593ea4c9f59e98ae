use Rattle.std.proofs.Common.{◌≡◌, take}
use Rattle.net_align.specs.Marks.{marked}
use Rattle.net_align.proofs.sights.mark_nets.Given as goal

abbrev pub invariant-loop-net : goal.invariant-loop-net
invariant-loop-net l = l.marks.items ≡ marked (take l.net-index l.nets) l.fn.marks.items
