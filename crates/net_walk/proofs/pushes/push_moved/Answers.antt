use Rattle.std.proofs.Common.{length, arith}
use Rattle.net_walk.proofs.Adding.{moved_none, moved_at, moved_all, listed_at, inside_at}
use Rattle.net_walk.proofs.pushes.push_moved.Goals as goal

pub push_image-requires-clause-listed : goal.push_image-requires-clause-listed
push_image-requires-clause-listed c = listed_at (length c.args.net_of.now) c.args.at c.args.pieces.now c.loop-piece.piece-index c.requires.listed (omega arith)

pub push_image-requires-clause-inside : goal.push_image-requires-clause-inside
push_image-requires-clause-inside c = inside_at c.args.inner.now c.args.pieces.now c.loop-piece.piece-index c.requires.inside (omega arith)

pub loop-piece-init : goal.loop-piece-init
loop-piece-init c = moved_none c.args.window.now c.args.motion.now c.args.net_of.now c.args.at c.args.out.now.items

pub loop-piece-preserved : goal.loop-piece-preserved
loop-piece-preserved c =
    moved_at c.args.window.now c.args.motion.now c.args.pieces.now c.loop-piece.piece-index c.args.net_of.now c.args.at c.args.out.now.items c.loop-piece.out.items c.push_image.new.out.items (omega arith) c.loop-piece.invariant c.in_ok-push_image.ensures

pub returns : goal.returns
returns c = moved_all c.args.window.now c.args.motion.now c.args.pieces.now c.loop-piece.piece-index c.args.net_of.now c.args.at c.args.out.now.items c.loop-piece.out.items (omega arith) c.loop-piece.invariant
