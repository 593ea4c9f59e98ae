use Rattle.std.proofs.Common.{◌∙◌, List, [], ap, sym, subst}
use Rattle.geo_base.specs.declared.shapes.Rect.{Rect}
use Rattle.net_phase.proofs.Nearing.{found_near, none_near}
use Rattle.net_phase.proofs.Results.{if_ok}
use Rattle.net_phase.proofs.below.BelowCells.own_near.Goals as goal
use Rattle.net_phase.specs.Below.{BelowSeen, below_seen, tables_seen}
use Rattle.net_phase.specs.Own.{own_at}
use Rattle.net_walk.specs.Windows.{AreOwnNear}

pub returns-in-None : goal.returns-in-None
returns-in-None c =
    let a = c.self.inside in
    let w = c.args.window.now in
    let none = ap (λ (l : List (List (List Rect))). own_at l c.args.cell c.args.conductor) (sym c.self.invariant.indexes.own) ∙ c.in-None.ensures in
    rw c.new.ensures.items
    (subst (λ (v : BelowSeen). AreOwnNear ((tables_seen v).own c.args.cell c.args.conductor) w []) c.self.view_is (none_near ((tables_seen (below_seen a)).own c.args.cell c.args.conductor) w none))

pub returns-in-Some : goal.returns-in-Some
returns-in-Some c =
    let w = c.args.window.now in
    let own = c.in-Some.ensures ∙ ap (λ (l : List (List (List Rect))). own_at l c.args.cell c.args.conductor) c.self.invariant.indexes.own in
    if_ok _ _ c.query.result (λ v found.
    subst (λ (s : BelowSeen). AreOwnNear ((tables_seen s).own c.args.cell c.args.conductor) w v.items) c.self.view_is
    (subst (λ (l : List Rect). AreOwnNear l w v.items) own (found_near c.in-Some.index.now w v.items found))) c.query.ensures
