use Rattle.std.proofs.Common.{length}
use Rattle.net_walk.proofs.Owning.{owned_links}
use Rattle.net_walk.proofs.Seeing.{known_pieces, links_over}
use Rattle.net_walk.proofs.own.own_links.Goals as goal
use Rattle.net_walk.specs.Owned.{IsOwned}

pub touching_links-requires : goal.touching_links-requires
touching_links-requires g c =
    let t = g.C.Cells.tables c.args.cells.now in
    let n = length (g.C.Cells.wiring c.args.cells.now).conductors in
    rw (c.deref.ensures.value, c.conductors.ensures) (known_pieces (IsOwned t c.args.cell n) c.in_ok-pieces.pieces.items c.in_ok-pieces.ensures.seen n (λ k i q h. h.0))

pub returns : goal.returns
returns g c =
    let d = g.C.Cells.design c.args.cells.now in
    let w = g.C.Cells.wiring c.args.cells.now in
    let t = g.C.Cells.tables c.args.cells.now in
    let n = length w.conductors in
    let links = rw c.deref.ensures.value at c.in_ok-links.ensures in
    owned_links d w t c.args.cell c.args.joins.now c.in_ok-links.links.items c.requires.joins (links_over (IsOwned t c.args.cell n) c.in_ok-pieces.pieces.items c.in_ok-pieces.ensures.seen c.args.joins.now c.in_ok-links.links.items links)
