use Rattle.std.proofs.Common.{arith}
use Rattle.net_walk.proofs.Contacting.{all_across, more_across, none_across}
use Rattle.net_walk.proofs.contacts.across.Goals as goal

pub loop-link-init : goal.loop-link-init
loop-link-init c = rw c.new-out.ensures.items (none_across c.args.links.now c.args.count)

pub loop-link-preserved : goal.loop-link-preserved
loop-link-preserved c = more_across c.args.links.now c.loop-link.link-index c.args.count c.loop-link.out.items c.push_across.new.out.items (omega arith) c.loop-link.invariant c.in_ok-push_across.ensures

pub returns : goal.returns
returns c = all_across c.args.links.now c.loop-link.link-index c.args.count c.loop-link.out.items (omega arith) c.loop-link.invariant
