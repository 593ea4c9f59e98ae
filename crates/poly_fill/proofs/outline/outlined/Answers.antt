use Rattle.std.proofs.Common.{◌≡◌, List, sym, subst, IfSome}
use Rattle.geo_base.specs.declared.shapes.Point.{Point}
use Rattle.geo_base.specs.declared.shapes.Rect.{Rect}
use Rattle.geo_base.specs.declared.shapes.Square.{Square}
use Rattle.geo_base.specs.Rects.{has}
use Rattle.poly_fill.specs.Fills.{in_boundary}
use Rattle.poly_fill.proofs.Outlined.{five}
use Rattle.poly_fill.proofs.outline.outlined.Goals as goal

pub returns-in-len5 : goal.returns-in-len5
returns-in-len5 c =
    subst (λ (ps : List Point). IfSome c.outline_of.result (λ (r : Rect). (s : Square) → in_boundary ps s ≡ has r s))
    (sym (five c.args.points.now _ _ _ _ _ c.in-len5.len_at_least c.in-len5.len_below)) c.outline_of.ensures
