use Rattle.std.proofs.Common.{sym, ◌∙◌}
use Rattle.geo_base.proofs.Meeting.{rect_from, rect_to}
use Rattle.geo_base.proofs.shapes.Rect.is_rect.Goals as goal

pub returns-clause-rect : goal.returns-clause-rect
returns-clause-rect c =
    let r = c.args.self.now in
    ((λ e. rect_from r (sym c.has_sides.ensures ∙ e)), (λ h. c.has_sides.ensures ∙ rect_to r h))
