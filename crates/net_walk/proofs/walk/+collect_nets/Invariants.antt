use Rattle.std.proofs.Common.{[]}
use Rattle.net_walk.proofs.Walking.{IsSoFar, IsVisited}
use Rattle.net_walk.specs.Walk.{AddsPieces}
use Rattle.net_walk.proofs.walk.+collect_nets.Given as goal

abbrev pub decreases-collect_nets : goal.decreases-collect_nets
decreases-collect_nets g l = g.C.Cells.height l.cells.now l.cell

abbrev pub invariant-loop-number : goal.invariant-loop-number
invariant-loop-number g l =
    AddsPieces l.window (IsSoFar (g.C.Cells.design l.cells) (g.C.Cells.tables l.cells) l.cell l.conductor l.window (IsVisited l.number-items l.number-index)) [] l.out.items
