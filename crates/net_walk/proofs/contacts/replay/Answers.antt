use Rattle.std.proofs.Common.{get_or, arith}
use Rattle.net_walk.proofs.Contacting.{all_replayed, from_at, more_replayed, none_replayed}
use Rattle.net_walk.proofs.Spanning.{no_link}
use Rattle.net_walk.proofs.contacts.replay.Goals as goal

pub loop-contact-init : goal.loop-contact-init
loop-contact-init c = none_replayed c.args.contacts.now c.args.at c.args.other_at c.args.out.now.items

pub overflow_add-at : goal.overflow_add-at
overflow_add-at c =
    let l = get_or c.args.contacts.now c.loop-contact.contact-index no_link in
    let h = c.requires.room l.one l.other (from_at c.args.contacts.now c.loop-contact.contact-index no_link (omega arith)) in
    omega (arith, h)

pub overflow_add-other_at : goal.overflow_add-other_at
overflow_add-other_at c =
    let l = get_or c.args.contacts.now c.loop-contact.contact-index no_link in
    let h = c.requires.room_too l.one l.other (from_at c.args.contacts.now c.loop-contact.contact-index no_link (omega arith)) in
    omega (arith, h)

pub loop-contact-preserved : goal.loop-contact-preserved
loop-contact-preserved c =
    rw c.in_ok-push.ensures.items (more_replayed c.args.contacts.now c.loop-contact.contact-index c.args.at c.args.other_at c.args.out.now.items c.loop-contact.out.items (omega arith) c.loop-contact.invariant)

pub returns : goal.returns
returns c = all_replayed c.args.contacts.now c.loop-contact.contact-index c.args.at c.args.other_at c.args.out.now.items c.loop-contact.out.items (omega arith) c.loop-contact.invariant
