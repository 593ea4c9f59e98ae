use Rattle.std.proofs.Common.{rules, w64, ◌∙◌, ap, List, ◌≡◌, Some}
use Rattle.std.specs.Prelude.{slice_get}
use Rattle.std.proofs.lemmas.Int.{to_z-of_z}
use mir.Val.{SFits}
use Rattle.geo_base.specs.declared.shapes.Rect.{Rect}
use Rattle.gate_shapes.proofs.PartsOf.{least_law}
use Rattle.gate_shapes.proofs.pieces.least.Goals as goal

pub returns-in-Some : goal.returns-in-Some
returns-in-Some c =
    let r : Rect = c.in-Some.rect.now in
    let fx : SFits w64 r.x1 = search rules in
    let fy : SFits w64 r.y1 = search rules in
    let at : Some r ≡ slice_get c.args.set.now 0 = c.in-Some.ensures.value ∙ ap (λ (l : List Rect). slice_get l 0) c.rects.ensures.list in
    simp to_z-of_z (least_law c.args.set.now r c.rects.ensures.canonical at)
