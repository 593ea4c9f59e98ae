use Rattle.net_walk.proofs.Contacting.{SaysAcross}
use Rattle.net_walk.proofs.contacts.across.Given as goal

abbrev pub invariant-loop-link : goal.invariant-loop-link
invariant-loop-link l = SaysAcross l.links l.link-index l.count l.out.items
