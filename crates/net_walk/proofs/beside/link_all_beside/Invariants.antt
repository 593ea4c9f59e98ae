use Rattle.std.proofs.Common.{length, take}
use Rattle.net_walk.proofs.beside.link_all_beside.Given as goal
use Rattle.net_walk.specs.Beside.{AddsPairsBeside}
use Rattle.net_walk.specs.Held.{AreHeldLists}

abbrev pub invariant-loop-pair : goal.invariant-loop-pair
invariant-loop-pair g l =
    AreHeldLists (g.C.Cells.design l.cells) (g.C.Cells.tables l.cells) l.memo.lists.items
    × AddsPairsBeside (g.C.Cells.design l.cells) (g.C.Cells.wiring l.cells) (g.C.Cells.tables l.cells) l.site.cell (length l.pieces) (take l.pair-index l.pairs) l.fn.out.items l.out.items
