use Rattle.std.proofs.Common.{sym, ◌∙◌, subst}
use Rattle.cell_graph.specs.Linked.{plain}
use Rattle.net_phase.specs.Below.{BelowSeen, tables_seen}
use Rattle.net_walk.specs.Walk.{HasNoSquare, IsSpan, place_of}
use Rattle.view_drawing.proofs.Bounding.{hull_near, hull_rect, net_span, no_nets}
use Rattle.view_drawing.proofs.placed.PlacedCells.span.Goals as goal

pub rect-requires-clause-near_rect : goal.rect-requires-clause-near_rect
rect-requires-clause-near_rect c = hull_near c.self.inside c.self.invariant c.args.element.now.cell c.in-Some.bound (sym c.in-Some.is ∙ c.bound_at.ensures)

pub rect-requires-clause-in_order : goal.rect-requires-clause-in_order
rect-requires-clause-in_order c = hull_rect c.self.inside c.self.invariant c.args.element.now.cell c.in-Some.bound (sym c.in-Some.is ∙ c.bound_at.ensures)

pub returns-in-None-clause-none : goal.returns-in-None-clause-none
returns-in-None-clause-none c =
    subst (λ (v : BelowSeen). HasNoSquare (plain v.design) (tables_seen v) c.args.element.now.cell) c.self.view_is
    (no_nets c.self.inside c.self.invariant c.args.element.now.cell (sym c.in-None.is ∙ c.bound_at.ensures))

pub returns-in-Some-clause-some : goal.returns-in-Some-clause-some
returns-in-Some-clause-some c =
    subst (λ (v : BelowSeen). IsSpan (plain v.design) (tables_seen v) (place_of c.args.element.now) c.rect.result) c.self.view_is
    (net_span c.self.inside c.self.invariant c.args.element.now c.in-Some.bound c.rect.result c.requires (sym c.in-Some.is ∙ c.bound_at.ensures) c.rect.ensures.corners)
