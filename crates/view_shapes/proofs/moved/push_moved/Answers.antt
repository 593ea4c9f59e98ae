use Rattle.std.proofs.Common.{length, arith}
use Rattle.view_shapes.proofs.Adding.{moved_none, moved_at, moved_all, listed_at, near_at}
use Rattle.view_shapes.proofs.moved.push_moved.Goals as goal

pub push_image-requires-clause-listed : goal.push_image-requires-clause-listed
push_image-requires-clause-listed c = listed_at (length c.args.net_of.now) c.args.at c.args.pieces.now c.loop-piece.piece-index c.requires.listed (omega arith)

pub push_image-requires-clause-near_rect : goal.push_image-requires-clause-near_rect
push_image-requires-clause-near_rect c = (near_at c.args.pieces.now c.loop-piece.piece-index c.requires.pieces (omega arith)).0

pub push_image-requires-clause-rect : goal.push_image-requires-clause-rect
push_image-requires-clause-rect c = (near_at c.args.pieces.now c.loop-piece.piece-index c.requires.pieces (omega arith)).1

pub loop-piece-init : goal.loop-piece-init
loop-piece-init c = moved_none c.args.motion.now c.args.net_of.now c.args.at c.args.out.now.items

pub loop-piece-preserved : goal.loop-piece-preserved
loop-piece-preserved c =
    moved_at c.args.motion.now c.args.pieces.now c.loop-piece.piece-index c.args.net_of.now c.args.at c.args.out.now.items c.loop-piece.out.items c.push_image.new.out.items (omega arith) c.loop-piece.invariant c.in_ok-push_image.ensures

pub returns : goal.returns
returns c = moved_all c.args.motion.now c.args.pieces.now c.loop-piece.piece-index c.args.net_of.now c.args.at c.args.out.now.items c.loop-piece.out.items (omega arith) c.loop-piece.invariant
