use Rattle.std.proofs.Common.{arith}
use Rattle.net_walk.proofs.Adding.{inside_at}
use Rattle.net_walk.proofs.Seeing.{seen_at, seen_all, nothing_seen, items_at}
use Rattle.net_walk.proofs.seen.push_seen.Goals as goal

pub push_one-requires-clause-items : goal.push_one-requires-clause-items
push_one-requires-clause-items c = items_at c.args.at c.args.pieces.now c.loop-piece.piece-index c.requires.items (omega arith)

pub push_one-requires-clause-inside : goal.push_one-requires-clause-inside
push_one-requires-clause-inside c = inside_at c.args.inner.now c.args.pieces.now c.loop-piece.piece-index c.requires.inside (omega arith)

pub loop-piece-init : goal.loop-piece-init
loop-piece-init c = nothing_seen c.args.motion.now c.args.conductor c.args.at c.args.out.now.items

pub loop-piece-preserved : goal.loop-piece-preserved
loop-piece-preserved c = seen_at c.args.motion.now c.args.pieces.now c.loop-piece.piece-index c.args.conductor c.args.at c.args.out.now.items c.loop-piece.out.items c.push_one.new.out.items (omega arith) c.loop-piece.invariant c.in_ok-push_one.ensures

pub returns : goal.returns
returns c = seen_all c.args.motion.now c.args.pieces.now c.loop-piece.piece-index c.args.conductor c.args.at c.args.out.now.items c.loop-piece.out.items (omega arith) c.loop-piece.invariant
