use Rattle.std.proofs.Common.{get_or, refl, arith}
use Rattle.net_walk.proofs.Wholes.{first_all, first_more, no_first}
use Rattle.net_walk.proofs.whole.push_links.Goals as goal

pub loop-net-init : goal.loop-net-init
loop-net-init c = no_first c.args.item c.args.nets.now c.args.at c.args.out.now.items

pub overflow_add-at : goal.overflow_add-at
overflow_add-at c =
    let h = c.requires (get_or c.args.nets.now c.loop-net.net-index 0) (c.loop-net.net-index, omega arith, refl) in
    omega (arith, h)

pub loop-net-preserved : goal.loop-net-preserved
loop-net-preserved c = rw c.in_ok-push.ensures.items (first_more c.args.item c.args.nets.now c.loop-net.net-index c.args.at c.args.out.now.items c.loop-net.out.items c.loop-net.invariant)

pub returns : goal.returns
returns c = first_all c.args.item c.args.nets.now c.loop-net.net-index c.args.at c.args.out.now.items c.loop-net.out.items (omega arith) c.loop-net.invariant
