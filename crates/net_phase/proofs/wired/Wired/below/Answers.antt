use Rattle.std.proofs.Common.{◌∙◌, List, ap, sym, subst}
use Rattle.std.specs.Borrow.{Bor}
use Rattle.std.specs.Global.{Vec}
use Rattle.geo_base.specs.declared.shapes.Rect.{Rect}
use Rattle.net_phase.proofs.Nearing.{same_indexes}
use Rattle.net_phase.proofs.Righting.{held_own, same_below}
use Rattle.net_phase.proofs.wired.Wired.below.Goals as goal
use Rattle.net_phase.specs.Below.{AreHeldOwn}
use Rattle.net_phase.specs.Own.{rect_lists}
use Rattle.net_phase.specs.Reading.{nets_of}
use Rattle.net_phase.specs.Wired.{WiredOf, with_nets}
use Rattle.rule_text.specs.Seen.{rules_seen}

pub new-requires-clause-own : goal.new-requires-clause-own
new-requires-clause-own c =
    let a = c.self.inside in
    subst (λ (l : List (Vec (Bor (List Rect)))). AreHeldOwn a.indexes.reach a.design.now (rect_lists l)) (sym c.deref.ensures.value)
    (held_own a.indexes.reach a.design.now (rules_seen a.rules.now) (rect_lists a.own.items) c.sound.ensures c.self.invariant.indexes.reach c.self.invariant.own)

pub new-requires-clause-indexes : goal.new-requires-clause-indexes
new-requires-clause-indexes c = same_indexes c.self.inside.design.now _ _ _ _ _ c.self.inside.indexes (sym c.deref.ensures.value) (sym c.deref-2.ensures.value) c.self.invariant.indexes

pub returns : goal.returns
returns c =
    let a = c.self.inside in let e = c.new.ensures in
    same_below c.new.result a.design.now a.rules.now (rect_lists a.own.items) (nets_of c.args.nets.now) e.design e.rules
    (e.own ∙ ap (λ (l : List (Vec (Bor (List Rect)))). rect_lists l) c.deref.ensures.value) e.nets
    ∙ ap (λ (w : WiredOf). with_nets w (nets_of c.args.nets.now)) c.self.view_is
