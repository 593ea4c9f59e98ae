use Rattle.std.proofs.Common.{◌≡◌, ◌<◌, Some, slice_get, get_or, length, arith}
use Rattle.std.proofs.lemmas.Option.{slice_get_within}
use Rattle.flat_layout.specs.Layout.{Place}
use Rattle.net_link_laws.specs.Places.{places_of}
use Rattle.net_walk.proofs.Besides.{no_part, piece_among}
use Rattle.net_walk.proofs.Partnering.{no_pieces, pieces_all, pieces_more}
use Rattle.net_walk.proofs.Walking.{as_long, element_at, no_element}
use Rattle.net_walk.proofs.partners.partner_pieces.Goals as goal
use Rattle.net_walk.specs.Walk.{place_of}
use Rattle.touching_pieces.specs.declared.pieces.Piece.{Piece}

pub loop-span-init : goal.loop-span-init
loop-span-init g c = rw c.new-out.ensures.items (no_pieces (g.C.Cells.design c.args.cells.now) (g.C.Cells.tables c.args.cells.now) c.args.spans.now.cell c.args.conductors.now c.args.ones.now c.args.spans.now.from c.args.spans.now.pieces.now)

pub bounds-elements-number : goal.bounds-elements-number
bounds-elements-number g c =
    let d = g.C.Cells.design c.args.cells.now in
    let o : Piece = get_or c.args.spans.now.pieces.now c.loop-span.span-index no_part in
    let f = c.requires.spans.pieces.each o (piece_among c.args.spans.now.pieces.now c.loop-span.span-index (omega arith)) in
    let within : o.item < length (places_of d c.args.spans.now.cell) = slice_get_within (places_of d c.args.spans.now.cell) o.item f.0 f.1 in
    let long = as_long c.places-elements.result.now (places_of d c.args.spans.now.cell) c.places-elements.ensures.all in
    omega (arith, within, long)

pub push_partner-requires : goal.push_partner-requires
push_partner-requires g c =
    let d = g.C.Cells.design c.args.cells.now in
    let o : Piece = get_or c.args.spans.now.pieces.now c.loop-span.span-index no_part in
    let f = c.requires.spans.pieces.each o (piece_among c.args.spans.now.pieces.now c.loop-span.span-index (omega arith)) in
    let within : o.item < length (places_of d c.args.spans.now.cell) = slice_get_within (places_of d c.args.spans.now.cell) o.item f.0 f.1 in
    let room = c.requires.spans.room in
    omega (arith, within, room)

pub loop-span-preserved : goal.loop-span-preserved
loop-span-preserved g c =
    let d = g.C.Cells.design c.args.cells.now in
    let t = g.C.Cells.tables c.args.cells.now in
    let es = c.places-elements.result.now in
    let k = c.loop-span.span-index in
    let o : Piece = get_or c.args.spans.now.pieces.now k no_part in
    let f = c.requires.spans.pieces.each o (piece_among c.args.spans.now.pieces.now k (omega arith)) in
    let within : o.item < length (places_of d c.args.spans.now.cell) = slice_get_within (places_of d c.args.spans.now.cell) o.item f.0 f.1 in
    let long = as_long es (places_of d c.args.spans.now.cell) c.places-elements.ensures.all in
    let q : Place = place_of (get_or es o.item no_element) in
    let there : slice_get (places_of d c.args.spans.now.cell) o.item ≡ Some q = element_at es (places_of d c.args.spans.now.cell) o.item c.places-elements.ensures.all (omega (arith, within, long)) in
    pieces_more d t c.args.spans.now.cell c.args.conductors.now c.args.ones.now c.args.spans.now.from c.args.spans.now.pieces.now k q c.loop-span.out.items c.push_partner.new.out.items (omega arith) there c.loop-span.invariant c.in_ok-push_partner.ensures

pub returns : goal.returns
returns g c = pieces_all (g.C.Cells.design c.args.cells.now) (g.C.Cells.tables c.args.cells.now) c.args.spans.now.cell c.args.conductors.now c.args.ones.now c.args.spans.now.from c.args.spans.now.pieces.now c.loop-span.span-index c.loop-span.out.items (omega arith) c.loop-span.invariant
