use Rattle.std.proofs.Common.{◌≡◌}
use Rattle.net_link_laws.specs.Places.{owned_before}
use Rattle.net_walk.proofs.partners.partners.Given as goal
use Rattle.net_walk.specs.Partners.{ArePartners}

abbrev pub invariant-loop-conductor : goal.invariant-loop-conductor
invariant-loop-conductor g l = record {
  at : l.at ≡ owned_before (g.C.Cells.tables l.cells) l.cell l.conductor;
  pairs : ArePartners (g.C.Cells.design l.cells) (g.C.Cells.wiring l.cells) (g.C.Cells.tables l.cells) l.cell l.from l.conductor l.pairs.items;
}
