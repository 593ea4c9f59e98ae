use Rattle.std.proofs.Common.{length, take}
use Rattle.net_walk.proofs.whole.whole_links.Given as goal
use Rattle.net_walk.specs.Held.{AreHeldLists}
use Rattle.net_walk.specs.Whole.{IsWholeLink}
use Rattle.touching_pieces.specs.Pairs.{AddsLinks}

abbrev pub invariant-loop-line : goal.invariant-loop-line
invariant-loop-line g l = record {
  lists : AreHeldLists (g.C.Cells.design l.cells) (g.C.Cells.tables l.cells) l.memo.lists.items;
  links : AddsLinks (IsWholeLink (g.C.Cells.design l.cells) (g.C.Cells.tables l.cells) (take l.line-index l.joins) l.piece.item l.piece.conductor l.placed.element.now.cell l.placed.at (length (g.C.Cells.wiring l.cells).conductors)) l.fn.out.items l.out.items;
}
