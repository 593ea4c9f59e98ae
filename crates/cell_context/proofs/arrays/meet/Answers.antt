use Rattle.std.proofs.Common.{◌∙◌, ap, refl, sym, subst}
use Rattle.geo_base.specs.Rects.{IsRect, is_rect}
use Rattle.geo_base.proofs.Meeting.{common_first, common_second, common_has, none_shared}
use Rattle.cell_context.specs.Arrays.{IsPart}
use Rattle.cell_context.proofs.arrays.meet.Goals as goal

pub returns-then-is_rect : goal.returns-then-is_rect
returns-then-is_rect c =
    let a = c.args.a.now in let b = c.args.b.now in let e = c.common-part.ensures in
    let some = c.if-is_rect.ensures.rect.0 refl in
    subst (IsPart a b) (sym e) (record { some = subst IsRect e some; first = common_first a b; second = common_second a b; has = common_has a b })

pub returns-else-is_rect : goal.returns-else-is_rect
returns-else-is_rect c = λ q.
    let a = c.args.a.now in let b = c.args.b.now in
    none_shared a b q (ap is_rect (sym c.common-part.ensures) ∙ sym c.if-is_rect.ensures.exact)
