use Rattle.net_walk.proofs.globals.ground_rects.Given as goal
use Rattle.net_walk.specs.Globals.{AddsToGlobals, IsByFirst}

abbrev pub invariant-loop-r : goal.invariant-loop-r
invariant-loop-r g l = AddsToGlobals (g.C.Cells.design l.cells) (g.C.Cells.wiring l.cells) (g.C.Cells.tables l.cells) l.globals.cell (IsByFirst l.line l.r) l.fn.out.items l.out.items
