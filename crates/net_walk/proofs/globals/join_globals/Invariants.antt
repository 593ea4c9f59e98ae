use Rattle.net_walk.proofs.globals.join_globals.Given as goal
use Rattle.net_walk.specs.Globals.{AddsToGlobals, IsOfFirst}

abbrev pub invariant-loop-g : goal.invariant-loop-g
invariant-loop-g g l = AddsToGlobals (g.C.Cells.design l.cells) (g.C.Cells.wiring l.cells) (g.C.Cells.tables l.cells) l.globals.cell (IsOfFirst l.number l.g) l.fn.out.items l.out.items
