use Rattle.std.proofs.Common.{◌≡◌, length}
use Rattle.net_phase.proofs.bare.all_bare.Given as goal
use Rattle.net_phase.specs.Bare.{AreAllBare, mark_lists}
use Rattle.net_phase.specs.Own.{rect_lists}

abbrev pub invariant-loop-conductor : goal.invariant-loop-conductor
invariant-loop-conductor l = record { long : length l.all.items ≡ l.conductor; right : AreAllBare l.design (rect_lists l.own) (mark_lists l.all.items) }
