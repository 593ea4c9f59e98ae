use Rattle.std.proofs.Common.{false, get_or}
use Rattle.pin_phase.specs.Links.{IsChildLink, lists_of}
use Rattle.pin_phase.specs.Sets.{Adds}
use Rattle.pin_phase.proofs.Added.{AtItem, First}
use Rattle.pin_phase.proofs.links.push_items.Given as goal

abbrev pub invariant-loop-i : goal.invariant-loop-i
invariant-loop-i l = Adds (First (AtItem (IsChildLink l.job l.elements l.nets.net_of.items (λ x. get_or l.busy x false)) l.nets.items.items) l.i) (lists_of l.initial.lists.items) (lists_of l.lists.items)
