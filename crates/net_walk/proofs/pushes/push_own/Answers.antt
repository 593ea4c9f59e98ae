use Rattle.std.proofs.Common.{◌≡◌, length, arith}
use Rattle.net_walk.proofs.Adding.{near_none, near_more, near_all}
use Rattle.net_walk.proofs.pushes.push_own.Goals as goal

pub push_at-requires-clause-inside : goal.push_at-requires-clause-inside
push_at-requires-clause-inside c = c.requires.near.inside c.loop-r.r-index c.loop-r-test.true

pub loop-r-init : goal.loop-r-init
loop-r-init c = near_none c.args.window.now c.args.own.now c.args.net_of.now c.args.at c.args.near.now c.args.out.now.items

pub loop-r-preserved : goal.loop-r-preserved
loop-r-preserved c =
    near_more c.args.window.now c.args.own.now c.args.net_of.now c.args.at c.args.near.now c.loop-r.r-index c.args.out.now.items c.loop-r.out.items c.push_at.new.out.items c.loop-r.invariant c.in_ok-push_at.ensures

pub returns : goal.returns
returns c =
    let end : c.loop-r.r-index ≡ length c.args.near.now = omega arith in
    near_all c.args.window.now c.args.own.now c.args.net_of.now c.args.at c.args.near.now c.loop-r.r-index c.args.out.now.items c.loop-r.out.items c.requires.near end c.loop-r.invariant
