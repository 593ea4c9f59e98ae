use Rattle.std.proofs.Common.{take}
use Rattle.net_walk.proofs.contacts.replay.Given as goal
use Rattle.net_walk.specs.Contacts.{IsReplayed}
use Rattle.touching_pieces.specs.Pairs.{AddsLinks}

abbrev pub invariant-loop-contact : goal.invariant-loop-contact
invariant-loop-contact l = AddsLinks (IsReplayed (take l.contact-index l.contacts) l.at l.other_at) l.fn.out.items l.out.items
