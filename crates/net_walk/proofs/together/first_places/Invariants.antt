use Rattle.std.proofs.Common.{◌≡◌}
use Rattle.net_walk.proofs.Uniting.{AreFirstsTo}
use Rattle.net_walk.proofs.together.first_places.Given as goal
use Rattle.net_walk.specs.Pairs.{first_of}

abbrev pub invariant-loop-element : goal.invariant-loop-element
invariant-loop-element g l = record {
  at : l.at ≡ first_of (g.C.Cells.design l.cells) (g.C.Cells.wiring l.cells) (g.C.Cells.tables l.cells) l.cell l.element-index;
  firsts : AreFirstsTo (g.C.Cells.design l.cells) (g.C.Cells.wiring l.cells) (g.C.Cells.tables l.cells) l.cell l.element-index l.firsts.items;
}
