use Rattle.std.proofs.Common.{take}
use Rattle.net_walk.proofs.globals.ground_lines.Given as goal
use Rattle.net_walk.specs.Globals.{AddsToGlobals, IsByLines}

abbrev pub invariant-loop-line : goal.invariant-loop-line
invariant-loop-line g l = AddsToGlobals (g.C.Cells.design l.cells) (g.C.Cells.wiring l.cells) (g.C.Cells.tables l.cells) l.globals.cell (IsByLines (take l.line-index l.lines)) l.fn.out.items l.out.items
