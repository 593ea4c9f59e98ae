use Rattle.std.proofs.Common.{◌≡◌, length, subst, arith}
use Rattle.view_shapes.specs.Pieces.{AddsPieces, IsOfOwn}
use Rattle.view_shapes.proofs.Adding.{own_none, own_more}
use Rattle.view_shapes.proofs.own.push_own.Goals as goal

pub rects-init : goal.rects-init
rects-init c = own_none c.args.own.now c.args.conductor c.args.net_of.now c.args.at c.args.wanted.now c.args.out.now.items

pub rects-preserved : goal.rects-preserved
rects-preserved c =
    own_more c.args.own.now c.args.conductor c.args.net_of.now c.args.at c.args.wanted.now c.rects.r c.args.out.now.items c.rects.out.items c.push_at.new.out.items c.rects.invariant c.in_ok-push_at.ensures

pub returns : goal.returns
returns c =
    let end : c.rects.r ≡ length c.args.own.now = omega arith in
    subst (λ n. AddsPieces (IsOfOwn c.args.own.now c.args.conductor c.args.net_of.now c.args.at c.args.wanted.now n) c.args.out.now.items c.rects.out.items) end c.rects.invariant
