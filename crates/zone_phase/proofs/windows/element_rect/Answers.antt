use Rattle.std.proofs.Common.{◌^◌, sym, subst, ap, ◌∙◌, arith}
use Rattle.geo_base.specs.Rects.{moved_rect}
use Rattle.geo_base.specs.declared.motion.Motion.{Motion}
use Rattle.cell_graph.specs.Linked.{IsRectWithin}
use Rattle.cell_context.proofs.Reaching.{element_within}
use Rattle.cell_context.proofs.Visiting.{near_rect, wider_rect}
use Rattle.zone_phase.proofs.windows.element_rect.Goals as goal

pub rect-requires-clause-near_rect : goal.rect-requires-clause-near_rect
rect-requires-clause-near_rect c = near_rect c.args.hull.now (wider_rect (2 ^ 37) (2 ^ 39) c.args.hull.now (omega arith) c.requires.hull.near)

pub returns-clause-exact : goal.returns-clause-exact
returns-clause-exact c = c.rect.ensures.corners ∙ ap (λ (m : Motion). moved_rect m c.args.hull.now) c.motion_at-motion.ensures.exact

pub returns-clause-near : goal.returns-clause-near
returns-clause-near c = subst (IsRectWithin (2 ^ 39)) (sym (c.rect.ensures.corners ∙ ap (λ (m : Motion). moved_rect m c.args.hull.now) c.motion_at-motion.ensures.exact))
    (element_within c.args.place.now c.args.row c.args.column c.args.hull.now c.requires.close c.requires.row c.requires.column c.requires.hull.near)
