use Rattle.std.proofs.Common.{length}
use Rattle.flat_layout.specs.Layout.{Place}
use Rattle.net_walk.proofs.OwnBeside.{beside_seen, beside_known}
use Rattle.net_walk.proofs.Seeing.{known_pieces, links_over}
use Rattle.net_walk.proofs.beside.beside_links.Goals as goal
use Rattle.net_walk.specs.Beside.{IsBesideSeen}
use Rattle.net_walk.specs.Walk.{place_of}

pub touching_links-requires : goal.touching_links-requires
touching_links-requires g c =
    let d = g.C.Cells.design c.args.cells.now in
    let t = g.C.Cells.tables c.args.cells.now in
    let n = length (g.C.Cells.wiring c.args.cells.now).conductors in
    let p : Place = place_of c.args.placed.now.element.now in
    let first = rw (c.grown-window.ensures, c.in_ok-push.ensures.items, c.new-pieces.ensures.items) at c.in_ok-see_joined.ensures in
    let seen = beside_seen d t c.args.joins.now c.args.piece.now.rect c.args.piece.now.conductor c.args.piece.now.item n p c.args.placed.now.at c.see_joined.new.out.items c.requires.rect first in
    rw (c.deref.ensures.value, c.conductors.ensures) (known_pieces (IsBesideSeen d t c.args.joins.now c.args.piece.now.rect c.args.piece.now.conductor c.args.piece.now.item n p c.args.placed.now.at) c.see_joined.new.out.items seen n (beside_known d t c.args.joins.now c.args.piece.now.rect c.args.piece.now.conductor c.args.piece.now.item n p c.args.placed.now.at c.requires.known))

pub returns : goal.returns
returns g c =
    let d = g.C.Cells.design c.args.cells.now in
    let t = g.C.Cells.tables c.args.cells.now in
    let n = length (g.C.Cells.wiring c.args.cells.now).conductors in
    let p : Place = place_of c.args.placed.now.element.now in
    let first = rw (c.grown-window.ensures, c.in_ok-push.ensures.items, c.new-pieces.ensures.items) at c.in_ok-see_joined.ensures in
    let seen = beside_seen d t c.args.joins.now c.args.piece.now.rect c.args.piece.now.conductor c.args.piece.now.item n p c.args.placed.now.at c.see_joined.new.out.items c.requires.rect first in
    let links = rw c.deref.ensures.value at c.in_ok-links.ensures in
    links_over (IsBesideSeen d t c.args.joins.now c.args.piece.now.rect c.args.piece.now.conductor c.args.piece.now.item n p c.args.placed.now.at) c.see_joined.new.out.items seen c.args.joins.now c.in_ok-links.links.items links
