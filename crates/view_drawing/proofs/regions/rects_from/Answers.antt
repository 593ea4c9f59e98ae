use Rattle.std.proofs.Common.{pos}
use Rattle.std.proofs.lemmas.Result.{err_from_is_err_and}
use Rattle.geo_base.specs.declared.shapes.Rect.{Rect}
use Rattle.view_drawing.proofs.Fars.{err_as, some_at}
use Rattle.view_drawing.specs.Far.{IsFarFrom}
use Rattle.view_drawing.proofs.regions.rects_from.Goals as goal

pub returns-in_err-seen-clause-far : goal.returns-in_err-seen-clause-far
returns-in_err-seen-clause-far c =
    let e = err_from_is_err_and c.from_residual.result c.from_residual.ensures.1 in
    let zero : Rect = record { x1 = pos 0; y1 = pos 0; x2 = pos 0; y2 = pos 0 } in
    rw (e.1, e.2) (λ s. some_at (IsFarFrom c.args.p) c.args.rects.now c.rects.k zero c.rects-test.true (c.in_err-seen.ensures.far (err_as _ _ s)))
