use Rattle.std.proofs.Common.{ℕ, ◌<◌, get_or}
use Rattle.net_walk.proofs.partners.may_hold.Given as goal
use Rattle.net_walk.specs.Walk.{HasNone}

abbrev pub invariant-loop-conductor : goal.invariant-loop-conductor
invariant-loop-conductor g l = (i : ℕ) → i < l.conductor-index → HasNone (g.C.Cells.design l.cells) (g.C.Cells.tables l.cells) l.cell (get_or l.conductors i 0)
