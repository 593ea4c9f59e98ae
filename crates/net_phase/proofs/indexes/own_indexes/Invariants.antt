use Rattle.std.proofs.Common.{◌≡◌, take}
use Rattle.net_phase.proofs.indexes.own_indexes.Given as goal
use Rattle.net_phase.specs.Indexes.{index_lists}
use Rattle.net_phase.specs.Own.{rect_lists}

abbrev pub invariant-loop-lists : goal.invariant-loop-lists
invariant-loop-lists l = index_lists l.all.items ≡ rect_lists (take l.lists-index l.own)
