use Rattle.net_walk.proofs.children.span_pieces.Given as goal
use Rattle.net_walk.specs.Pairs.{AreSpanPieces}

abbrev pub invariant-loop-k : goal.invariant-loop-k
invariant-loop-k g l = AreSpanPieces (g.C.Cells.design l.cells) (g.C.Cells.tables l.cells) l.cell l.k l.out.items
