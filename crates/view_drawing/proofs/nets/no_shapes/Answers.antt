use Rattle.std.proofs.Common.{◌≡◌, ◌+◌, ℕ, List, arith, sym, subst}
use Rattle.std.specs.Global.{Vec}
use Rattle.view_netlist.specs.declared.drawing.Shape.{Shape}
use Rattle.view_drawing.specs.Nets.{HasNone}
use Rattle.view_drawing.proofs.Listing.{none_more, none_yet}
use Rattle.view_drawing.proofs.nets.no_shapes.Goals as goal

pub counts-init : goal.counts-init
counts-init c = none_yet c.in_ok-lists.lists.items c.in_ok-lists.ensures.items

pub counts-preserved : goal.counts-preserved
counts-preserved c =
    subst (λ (lists : List (Vec Shape)). HasNone (c.counts.counter + 1) lists) (sym c.in_ok-push.ensures.items)
    (none_more c.counts.counter c.counts.lists.items c.new.result c.new.ensures.items c.counts.invariant)

pub returns : goal.returns
returns c =
    let end : c.counts.counter ≡ c.args.count = omega arith in
    subst (λ (n : ℕ). HasNone n c.counts.lists.items) end c.counts.invariant
