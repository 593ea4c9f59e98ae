use Rattle.std.proofs.Common.{IfSome, take}
use Rattle.net_walk.proofs.children.link_pairs.Given as goal
use Rattle.net_walk.specs.Contacts.{IsBeside}
use Rattle.net_walk.specs.Pairs.{AddsPairs}

abbrev pub invariant-loop-pair : goal.invariant-loop-pair
invariant-loop-pair g l = record {
  known : IfSome l.known (IsBeside (g.C.Cells.design l.cells) (g.C.Cells.wiring l.cells) (g.C.Cells.tables l.cells));
  links : AddsPairs (g.C.Cells.design l.cells) (g.C.Cells.wiring l.cells) (g.C.Cells.tables l.cells) l.site.cell (take l.pair-index l.pairs) l.fn.out.items l.out.items;
}
