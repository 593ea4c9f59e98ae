use Rattle.std.proofs.Common.{◌≡◌, take}
use Rattle.rect_sets.specs.Sums.{ends_of}
use Rattle.rect_sets.proofs.sums.ends_of.Given as goal

abbrev pub invariant-loop-edge : goal.invariant-loop-edge
invariant-loop-edge l = l.ends.items ≡ ends_of (take l.edge-index l.edges)
