use Rattle.std.proofs.Common.{◌∙◌, List, ap, subst, sym}
use Rattle.std.proofs.lemmas.Result.{err_from_is_err_and}
use Rattle.std.specs.List.{All}
use Rattle.geo_base.specs.declared.shapes.Rect.{Rect}
use Rattle.view_drawing.specs.Far.{IsFarArea}
use Rattle.view_words.specs.Numbers.{IsSmallRect}
use Rattle.view_joined.specs.Devices.{moved_rects}
use Rattle.view_drawing.proofs.Fars.{err_as}
use Rattle.view_joined.proofs.devices.rects_from.Goals as goal

pub moved_area-requires-clause-rects : goal.moved_area-requires-clause-rects
moved_area-requires-clause-rects c = subst (λ (l : List Rect). All IsSmallRect l) (sym c.deref.ensures.value) c.requires.region

pub returns-in_err-rects-clause-far : goal.returns-in_err-rects-clause-far
returns-in_err-rects-clause-far c =
    let e = err_from_is_err_and c.from_residual-in_err-rects.result c.from_residual-in_err-rects.ensures.1 in
    let same = c.deref-2.ensures.value ∙ c.in_ok-area.ensures.moved ∙ ap (moved_rects c.args.motion.now c.args.place) c.deref.ensures.value in
    rw (e.1, e.2) (λ s. subst (λ (l : List Rect). IsFarArea c.args.at l) same (c.in_err-rects.ensures.far (err_as _ _ s)))
