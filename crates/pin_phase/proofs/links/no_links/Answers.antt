use Rattle.std.specs.Global.{Vec}
use Rattle.std.proofs.Common.{List, ◌+◌, ◌≡◌, subst, sym, ℕ, arith}
use Rattle.pin_phase.specs.Links.{lists_of}
use Rattle.pin_phase.specs.Sets.{HaveNone}
use Rattle.pin_phase.specs.declared.links.Link.{Link}
use Rattle.pin_phase.proofs.Tagging.{none_more, none_yet}
use Rattle.pin_phase.proofs.links.no_links.Goals as goal

pub loop-init : goal.loop-init
loop-init c = none_yet (λ (v : Vec Link). v.items) c.in_ok-lists.lists.items c.in_ok-lists.ensures.items

pub loop-preserved : goal.loop-preserved
loop-preserved c =
    subst (λ (l : List (Vec Link)). HaveNone (c.loop.counter + 1) (lists_of l)) (sym c.in_ok-push.ensures.items)
    (none_more (λ (v : Vec Link). v.items) c.loop.lists.items c.new.result c.loop.counter c.new.ensures.items c.loop.invariant)

pub returns : goal.returns
returns c =
    let end : c.loop.counter ≡ c.args.cells = omega arith in
    subst (λ (n : ℕ). HaveNone n (lists_of c.loop.lists.items)) end c.loop.invariant
