use Rattle.std.proofs.Common.{◌≡◌, take}
use Rattle.net_phase.proofs.indexes.list_indexes.Given as goal
use Rattle.net_phase.specs.Own.{rects_of}

abbrev pub invariant-loop-rects : goal.invariant-loop-rects
invariant-loop-rects l = l.indexes.items ≡ rects_of (take l.rects-index l.lists)
