use Rattle.std.proofs.Common.{◌≡◌}
use Rattle.net_link_laws.specs.Places.{owned_before}
use Rattle.net_walk.proofs.together.count_own.Given as goal

abbrev pub invariant-loop-conductor : goal.invariant-loop-conductor
invariant-loop-conductor g l = l.count ≡ owned_before (g.C.Cells.tables l.cells) l.cell l.conductor
