use Rattle.std.proofs.Common.{◌∙◌, sym, ap}
use Rattle.net_phase.proofs.Holding.{bound_is, bound_is_near}
use Rattle.net_phase.proofs.indexes.span_of.Goals as goal
use Rattle.net_phase.specs.Indexes.{span_by}

pub rect-requires-clause-near_rect : goal.rect-requires-clause-near_rect
rect-requires-clause-near_rect c = bound_is_near c.args.reach c.args.design.now c.args.element.now.cell c.in-Some.bound c.requires.reach c.sound.ensures (sym c.in-Some.is ∙ c.bound_at.ensures)

pub rect-requires-clause-in_order : goal.rect-requires-clause-in_order
rect-requires-clause-in_order c = (bound_is c.args.reach c.args.design.now c.args.element.now.cell c.in-Some.bound c.requires.reach c.sound.ensures (sym c.in-Some.is ∙ c.bound_at.ensures)).some

pub returns-in-None : goal.returns-in-None
returns-in-None c = ap (span_by c.args.element.now) (sym c.in-None.is ∙ c.bound_at.ensures)

pub returns-in-Some : goal.returns-in-Some
returns-in-Some c = c.rect.ensures.corners ∙ ap (span_by c.args.element.now) (sym c.in-Some.is ∙ c.bound_at.ensures)
