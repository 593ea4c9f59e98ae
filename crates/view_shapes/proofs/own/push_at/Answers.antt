use Rattle.std.proofs.Common.{sym, arith}
use Rattle.view_shapes.proofs.Adding.{area_at, own_at, own_not}
use Rattle.view_shapes.proofs.own.push_at.Goals as goal

pub returns-then-is_marked : goal.returns-then-is_marked
returns-then-is_marked c =
    let inside = c.requires.inside in let fits = c.requires.fits in
    own_at c.args.own.now c.args.conductor c.args.net_of.now c.args.at c.args.wanted.now c.args.r c.args.out.now.items c.push_piece.new.out.items inside (omega arith)
    (sym c.if-is_marked.ensures) c.in_ok-push_piece.ensures

pub returns : goal.returns
returns c =
    let inside = c.requires.inside in let fits = c.requires.fits in
    own_not c.args.own.now c.args.conductor c.args.net_of.now c.args.at c.args.wanted.now c.args.r c.args.out.now.items (omega arith) (sym c.if-is_marked.ensures)

pub push_piece-requires : goal.push_piece-requires
push_piece-requires c = area_at c.args.own.now c.args.r c.requires.area c.requires.inside
