use Rattle.net_walk.proofs.globals.join_placements.Given as goal
use Rattle.net_walk.specs.Globals.{AddsToGlobals, IsOfPlacements}

abbrev pub invariant-loop-k : goal.invariant-loop-k
invariant-loop-k g l = AddsToGlobals (g.C.Cells.design l.cells) (g.C.Cells.wiring l.cells) (g.C.Cells.tables l.cells) l.globals.cell (IsOfPlacements l.k) l.fn.out.items l.out.items
