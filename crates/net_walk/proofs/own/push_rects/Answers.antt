use Rattle.std.proofs.Common.{arith}
use Rattle.net_walk.proofs.Owning.{no_rects, rects_more}
use Rattle.net_walk.proofs.Placing.{none_behind, pieces_more, pieces_all}
use Rattle.net_walk.proofs.own.push_rects.Goals as goal

pub loop-r-init : goal.loop-r-init
loop-r-init c = record { seen = no_rects c.args.own.now c.args.conductor c.args.at c.args.out.now.items; list = none_behind c.args.conductor c.args.at c.args.own.now c.args.out.now.items }

pub loop-r-preserved : goal.loop-r-preserved
loop-r-preserved c = record {
  seen = rw c.in_ok-push.ensures.items (rects_more c.args.own.now c.args.conductor c.args.at c.loop-r.r c.args.out.now.items c.loop-r.out.items c.requires.filled (omega arith) c.loop-r.invariant.seen);
  list = rw c.in_ok-push.ensures.items (pieces_more c.args.conductor c.args.at c.args.own.now c.loop-r.r c.args.out.now.items c.loop-r.out.items (omega arith) c.loop-r.invariant.list);
}

pub returns-clause-list : goal.returns-clause-list
returns-clause-list c = pieces_all c.args.conductor c.args.at c.args.own.now c.loop-r.r c.args.out.now.items c.loop-r.out.items (omega arith) c.loop-r.invariant.list
