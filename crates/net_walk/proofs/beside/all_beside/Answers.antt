use Rattle.std.proofs.Common.{◌≡◌, ◌∙◌, List, length, arith, ap, sym, subst}
use Rattle.net_link_laws.proofs.Standing.{items_long}
use Rattle.net_link_laws.specs.Places.{owned_before, places_of}
use Rattle.net_walk.proofs.Besides.{whole_beside}
use Rattle.net_walk.proofs.Holding.{no_lists}
use Rattle.net_walk.proofs.Partnering.{beside_of}
use Rattle.net_walk.proofs.Placing.{pieces_long}
use Rattle.net_walk.proofs.beside.all_beside.Goals as goal
use Rattle.net_walk.specs.Beside.{AddsPairsBeside, ArePairsBeside}
use Rattle.touching_pieces.specs.declared.pieces.Piece.{Piece}

pub own_pieces-requires : goal.own_pieces-requires
own_pieces-requires g c =
    let d = g.C.Cells.design c.args.cells.now in
    let w = g.C.Cells.wiring c.args.cells.now in
    let t = g.C.Cells.tables c.args.cells.now in
    let cell = c.args.site.now.cell in
    let all = items_long d w t cell in
    let room = c.requires.site.room in
    omega (arith, all, room)

pub partners-requires-clause-from : goal.partners-requires-clause-from
partners-requires-clause-from g c =
    let t = g.C.Cells.tables c.args.cells.now in
    let n = length (g.C.Cells.wiring c.args.cells.now).conductors in
    let long : length c.in_ok-pieces.pieces.items ≡ owned_before t c.args.site.now.cell n = ap (λ (l : List Piece). length l) c.in_ok-pieces.ensures.list ∙ pieces_long t c.args.site.now.cell n in
    let counted = c.in_ok-owned.ensures.sum in
    let long_pieces = c.len.ensures in
    let kept = c.in_ok-pieces.pieces.ok.0 in
    omega (arith, long, counted, long_pieces, kept)

pub partners-requires-clause-room : goal.partners-requires-clause-room
partners-requires-clause-room g c =
    let sum = c.in_ok-more.ensures.sum in
    let firsts = c.requires.site.firsts.long in
    omega (arith, sum, firsts)

pub link_all_beside-requires-clause-pairs : goal.link_all_beside-requires-clause-pairs
link_all_beside-requires-clause-pairs g c =
    let d = g.C.Cells.design c.args.cells.now in
    let w = g.C.Cells.wiring c.args.cells.now in
    let t = g.C.Cells.tables c.args.cells.now in
    let cell = c.args.site.now.cell in
    let n = length w.conductors in
    let pieces = c.in_ok-pieces.pieces.items in
    let from = c.in_ok-owned.owned in
    let pairs = c.in_ok-pairs.pairs.items in
    let counted = c.in_ok-owned.ensures.sum in
    let long_pieces = c.len.ensures in
    let kept = c.in_ok-pieces.pieces.ok.0 in
    let same : from ≡ length pieces = omega (arith, counted, long_pieces, kept) in
    let are : ArePairsBeside (length pieces) (length (places_of d cell)) pairs = subst (λ k. ArePairsBeside k (length (places_of d cell)) pairs) same (beside_of d w t cell from n pairs c.in_ok-pairs.ensures) in
    rw (c.deref.ensures.value, c.deref-2.ensures.value) are

pub link_all_beside-requires-clause-lists : goal.link_all_beside-requires-clause-lists
link_all_beside-requires-clause-lists g c = no_lists (g.C.Cells.design c.args.cells.now) (g.C.Cells.tables c.args.cells.now) c.new-memo.result.lists.items c.new-memo.ensures

pub returns : goal.returns
returns g c =
    let d = g.C.Cells.design c.args.cells.now in
    let w = g.C.Cells.wiring c.args.cells.now in
    let t = g.C.Cells.tables c.args.cells.now in
    let cell = c.args.site.now.cell in
    let pieces = c.in_ok-pieces.pieces.items in
    let from = c.in_ok-owned.owned in
    let pairs = c.in_ok-pairs.pairs.items in
    let counted = c.in_ok-owned.ensures.sum in
    let long_pieces = c.len.ensures in
    let kept = c.in_ok-pieces.pieces.ok.0 in
    let same : from ≡ length pieces = omega (arith, counted, long_pieces, kept) in
    let added : AddsPairsBeside d w t cell (length pieces) pairs c.args.out.now.items c.link_all_beside.new.out.items = rw (c.deref.ensures.value, c.deref-2.ensures.value) at c.in_ok-link_all_beside.ensures.links in
    let counted_pairs : AddsPairsBeside d w t cell from pairs c.args.out.now.items c.link_all_beside.new.out.items = subst (λ k. AddsPairsBeside d w t cell k pairs c.args.out.now.items c.link_all_beside.new.out.items) (sym same) added in
    whole_beside d w t cell from pairs c.args.out.now.items c.link_all_beside.new.out.items c.in_ok-pairs.ensures.found counted_pairs
