use Rattle.std.proofs.Common.{◌≡◌, ◌&&◌, ◌∙◌, ap, not, List, rules, w64}
use Rattle.std.proofs.lemmas.Int.{to_z-of_z}
use mir.Val.{SFits}
use Rattle.geo_base.specs.declared.shapes.Rect.{Rect}
use Rattle.geo_base.specs.declared.shapes.Square.{Square}
use Rattle.rect_sets.specs.Rects.{covers}
use Rattle.gate_shapes.proofs.Borders.{beside_law}
use Rattle.gate_shapes.proofs.border.beside.Goals as goal

pub returns : goal.returns
returns c =
    let cut : (s : Square) → covers c.in_ok-out.out s ≡ (covers c.in_ok-image.image s && not (covers c.args.part.now s)) =
    λ s. c.in_ok-out.ensures s ∙ ap (λ (a : List Rect). covers a s && not (covers c.rects-2.result.now s)) c.rects.ensures.list ∙ ap (λ (a : List Rect). covers c.in_ok-image.image s && not (covers a s)) c.rects-2.ensures.list in
    let fx : SFits w64 c.x.result = search rules in
    let fy : SFits w64 c.y.result = search rules in
    let moves = simp to_z-of_z at c.in_ok-image.ensures in
    beside_law c.args.side _ _ c.args.part.now c.in_ok-image.image c.in_ok-out.out c.x.ensures c.y.ensures moves cut
