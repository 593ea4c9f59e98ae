use Rattle.std.proofs.Common.{length}
use Rattle.flat_layout.specs.Layout.{Place}
use Rattle.net_walk.proofs.Seeing.{two_seen, two_known, known_pieces, links_over}
use Rattle.net_walk.proofs.seen.pair_links.Goals as goal
use Rattle.net_walk.specs.Seen.{IsSeenOfTwo}
use Rattle.net_walk.specs.Walk.{place_of}

pub touching_links-requires : goal.touching_links-requires
touching_links-requires g c =
    let d = g.C.Cells.design c.args.cells.now in
    let t = g.C.Cells.tables c.args.cells.now in
    let n = length (g.C.Cells.wiring c.args.cells.now).conductors in
    let p : Place = place_of c.args.one.now.element.now in
    let q : Place = place_of c.args.other.now.element.now in
    let first = rw c.new-pieces.ensures.items at c.in_ok-see.ensures in
    let seen = two_seen d t c.args.window.now n p c.args.one.now.at q c.args.other.now.at c.see.new.out.items c.see-2.new.out.items first c.in_ok-see-2.ensures in
    rw (c.deref.ensures.value, c.conductors.ensures) (known_pieces (IsSeenOfTwo d t c.args.window.now n p c.args.one.now.at q c.args.other.now.at) c.see-2.new.out.items seen n (two_known d t c.args.window.now n p c.args.one.now.at q c.args.other.now.at))

pub returns : goal.returns
returns g c =
    let d = g.C.Cells.design c.args.cells.now in
    let t = g.C.Cells.tables c.args.cells.now in
    let n = length (g.C.Cells.wiring c.args.cells.now).conductors in
    let p : Place = place_of c.args.one.now.element.now in
    let q : Place = place_of c.args.other.now.element.now in
    let first = rw c.new-pieces.ensures.items at c.in_ok-see.ensures in
    let seen = two_seen d t c.args.window.now n p c.args.one.now.at q c.args.other.now.at c.see.new.out.items c.see-2.new.out.items first c.in_ok-see-2.ensures in
    let links = rw c.deref.ensures.value at c.in_ok-links.ensures in
    links_over (IsSeenOfTwo d t c.args.window.now n p c.args.one.now.at q c.args.other.now.at) c.see-2.new.out.items seen c.args.joins.now c.in_ok-links.links.items links
