use Rattle.std.proofs.Common.{◌-◌, pos, length, take, drop, get_or}
use Rattle.view_words.proofs.Rows.{first_and_rest}
use Rattle.view_shapes.specs.declared.pieces.Piece.{Piece}
use Rattle.view_drawing.proofs.Listing.{shapes_more, shapes_start}
use Rattle.view_drawing.proofs.nets.net_shapes.Goals as goal

pub pieces-init : goal.pieces-init
pieces-init c = shapes_start c.args.count c.args.numbers.now c.in_ok-lists.lists.items c.args.pieces.now c.in_ok-lists.ensures

pub pieces-preserved : goal.pieces-preserved
pieces-preserved c =
    let rest = c.pieces.rest.now in
    let none : Piece = record { conductor = 0; net = 0; rect = record { x1 = pos 0; y1 = pos 0; x2 = pos 0; y2 = pos 0 } } in
    let more = take (length rest - 1) (drop 1 rest) in
    shapes_more c.args.count c.args.numbers.now c.pieces.lists.items c.push_shape.new.lists.items c.number_at.result (get_or rest 0 none) rest more c.args.pieces.now c.pieces.invariant
    (first_and_rest rest none c.in-len1-up.len_at_least) c.number_at.ensures c.in_ok-push_shape.ensures
