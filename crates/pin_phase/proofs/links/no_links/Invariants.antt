use Rattle.pin_phase.specs.Links.{lists_of}
use Rattle.pin_phase.specs.Sets.{HaveNone}
use Rattle.pin_phase.proofs.links.no_links.Given as goal

abbrev pub invariant-loop : goal.invariant-loop
invariant-loop l = HaveNone l.counter (lists_of l.lists.items)
