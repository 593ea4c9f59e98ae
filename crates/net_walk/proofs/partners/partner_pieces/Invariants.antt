use Rattle.std.proofs.Common.{take}
use Rattle.net_walk.proofs.partners.partner_pieces.Given as goal
use Rattle.net_walk.specs.Partners.{ArePartnerPieces}

abbrev pub invariant-loop-span : goal.invariant-loop-span
invariant-loop-span g l = ArePartnerPieces (g.C.Cells.design l.cells) (g.C.Cells.tables l.cells) l.spans.cell l.conductors l.ones l.spans.from (take l.span-index l.spans.pieces.now) l.out.items
