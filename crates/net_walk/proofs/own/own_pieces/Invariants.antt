use Rattle.std.proofs.Common.{◌≡◌, []}
use Rattle.net_link_laws.specs.Places.{owned_before}
use Rattle.net_walk.proofs.own.own_pieces.Given as goal
use Rattle.net_walk.specs.Owned.{IsOwned, owned_pieces}
use Rattle.net_walk.specs.Seen.{AddsSeen}

abbrev pub invariant-loop-conductor : goal.invariant-loop-conductor
invariant-loop-conductor g l = record { at : l.at ≡ owned_before (g.C.Cells.tables l.cells) l.cell l.conductor; so_far : AddsSeen (IsOwned (g.C.Cells.tables l.cells) l.cell l.conductor) [] l.out.items; list : l.out.items ≡ owned_pieces (g.C.Cells.tables l.cells) l.cell l.conductor }
