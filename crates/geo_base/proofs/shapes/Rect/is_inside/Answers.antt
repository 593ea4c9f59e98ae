use Rattle.std.proofs.Common.{sym, ◌∙◌}
use Rattle.geo_base.proofs.Meeting.{inside_to, inside_from}
use Rattle.geo_base.proofs.shapes.Rect.is_inside.Goals as goal

pub returns-clause-inside : goal.returns-clause-inside
returns-clause-inside c =
    let a = c.args.self.now in let b = c.args.other.now in
    ((λ e. inside_from a b (sym c.is_part.ensures ∙ e)), (λ h. c.is_part.ensures ∙ inside_to a b h))
