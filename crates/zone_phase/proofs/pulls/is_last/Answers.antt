use Rattle.std.proofs.Common.{◌≡◌, ◌-◌, ◌∙◌, true, sym, subst, arith, length, slice_index_or}
use Rattle.geo_base.specs.Rects.{has}
use Rattle.geo_base.specs.declared.shapes.Rect.{Rect}
use Rattle.zone_phase.proofs.Pulling.{item_covered, same_rect}
use Rattle.zone_phase.proofs.pulls.is_last.Goals as goal

pub returns-then-count-gt0 : goal.returns-then-count-gt0
returns-then-count-gt0 c = λ e q h.
    let rects = c.args.rects.now in let rect = c.args.rect.now in let some = c.if-count-gt0.true in
    let same = same_rect (slice_index_or rects (length rects - 1) _) rect (sym c.eq.ensures ∙ e) in
    item_covered rects (length rects - 1) _ q (omega (arith, some)) (subst (λ (r : Rect). has r q ≡ true) (sym same) h)
