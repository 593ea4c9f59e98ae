use Rattle.std.proofs.Common.{◌≡◌, ◌<◌, ◌-◌, List, Some, slice_get, get_or, length, arith, subst}
use Rattle.std.proofs.lemmas.Option.{slice_get-get_or}
use Rattle.net_link_laws.specs.Places.{places_of}
use Rattle.net_walk.proofs.Besides.{no_part, some_pair, pair_numbers}
use Rattle.net_walk.proofs.Placing.{owned_piece}
use Rattle.net_walk.proofs.beside.link_beside.Goals as goal
use Rattle.net_walk.specs.Owned.{owned_pieces}
use Rattle.touching_pieces.specs.declared.pieces.Piece.{Piece}

pub link_piece-requires-clause-piece : goal.link_piece-requires-clause-piece
link_piece-requires-clause-piece g c =
    let t = g.C.Cells.tables c.args.cells.now in
    let n = length (g.C.Cells.wiring c.args.cells.now).conductors in
    let pieces = c.args.pieces.now in
    let item = c.min-item.result in
    let bounds = pair_numbers (length pieces) (length (places_of (g.C.Cells.design c.args.cells.now) c.args.site.now.cell)) c.args.pair.now.one c.args.pair.now.other c.requires.pair in
    let is = c.min-item.ensures in
    let lt = bounds.0 in
    let o = get_or pieces item no_part in
    let within : item < length pieces = omega (arith, is, lt) in
    let there : slice_get (owned_pieces t c.args.site.now.cell n) item ≡ Some o = subst (λ (l : List Piece). slice_get l item ≡ Some o) c.requires.pieces (slice_get-get_or pieces item no_part within) in
    (owned_piece t c.args.site.now.cell n item o there).0

pub link_piece-requires-clause-number : goal.link_piece-requires-clause-number
link_piece-requires-clause-number g c =
    let pieces = c.args.pieces.now in
    let bounds = pair_numbers (length pieces) (length (places_of (g.C.Cells.design c.args.cells.now) c.args.site.now.cell)) c.args.pair.now.one c.args.pair.now.other c.requires.pair in
    let a = bounds.1 in
    let b = bounds.2 in
    let e = c.max.ensures in
    omega (arith, a, b, e)

pub returns-clause-links : goal.returns-clause-links
returns-clause-links g c =
    let pieces = c.args.pieces.now in
    let e = c.max.ensures in
    some_pair (g.C.Cells.design c.args.cells.now) (g.C.Cells.wiring c.args.cells.now) (g.C.Cells.tables c.args.cells.now) c.args.site.now.cell (length (places_of (g.C.Cells.design c.args.cells.now) c.args.site.now.cell)) c.min-item.result (c.max.result - length pieces) pieces c.args.pair.now c.args.out.now.items c.link_piece.new.out.items c.requires.pieces c.requires.pair
    c.min-item.ensures (omega (arith, e)) c.in_ok-link_piece.ensures.links
