use Rattle.std.proofs.Common.{refl, sym, ◌∙◌, subst}
use Rattle.cell_graph.specs.Linked.{plain}
use Rattle.net_phase.proofs.Holding.{hull_near, hull_rect, net_span, no_nets}
use Rattle.net_phase.proofs.below.BelowCells.span.Goals as goal
use Rattle.net_phase.specs.Below.{BelowSeen, below_seen, tables_seen}
use Rattle.net_phase.specs.Own.{rect_lists}
use Rattle.net_walk.specs.Walk.{HasNoSquare, IsSpan, place_of}

pub rect-requires-clause-near_rect : goal.rect-requires-clause-near_rect
rect-requires-clause-near_rect c =
    let a = c.self.inside in
    hull_near a.indexes.now.reach c.self.invariant.indexes.reach.most a.design.now (tables_seen (below_seen a)) (rect_lists a.own.now) c.self.invariant.sound c.self.invariant.own (λ cell k. refl) c.args.element.now.cell c.in-Some.bound (sym c.in-Some.is ∙ c.bound_at.ensures)

pub rect-requires-clause-in_order : goal.rect-requires-clause-in_order
rect-requires-clause-in_order c =
    let a = c.self.inside in
    hull_rect a.indexes.now.reach c.self.invariant.indexes.reach.most a.design.now (tables_seen (below_seen a)) (rect_lists a.own.now) c.self.invariant.sound c.self.invariant.own (λ cell k. refl) c.args.element.now.cell c.in-Some.bound (sym c.in-Some.is ∙ c.bound_at.ensures)

pub returns-in-None-clause-none : goal.returns-in-None-clause-none
returns-in-None-clause-none c =
    let a = c.self.inside in
    subst (λ (v : BelowSeen). HasNoSquare (plain v.design) (tables_seen v) c.args.element.now.cell) c.self.view_is
    (no_nets a.indexes.now.reach c.self.invariant.indexes.reach.most a.design.now (tables_seen (below_seen a)) (rect_lists a.own.now) c.self.invariant.sound c.self.invariant.own (λ cell k. refl) c.args.element.now.cell (sym c.in-None.is ∙ c.bound_at.ensures))

pub returns-in-Some-clause-some : goal.returns-in-Some-clause-some
returns-in-Some-clause-some c =
    let a = c.self.inside in
    subst (λ (v : BelowSeen). IsSpan (plain v.design) (tables_seen v) (place_of c.args.element.now) c.rect.result) c.self.view_is
    (net_span a.indexes.now.reach c.self.invariant.indexes.reach.most a.design.now (tables_seen (below_seen a)) (rect_lists a.own.now) c.self.invariant.sound c.self.invariant.own (λ cell k. refl) c.args.element.now c.in-Some.bound c.rect.result c.requires (sym c.in-Some.is ∙ c.bound_at.ensures) c.rect.ensures.corners)
