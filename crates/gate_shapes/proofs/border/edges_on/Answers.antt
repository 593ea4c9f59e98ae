use Rattle.std.proofs.Common.{◌≡◌, ◌&&◌, ◌∙◌, ap, not, List}
use Rattle.geo_base.specs.declared.shapes.Rect.{Rect}
use Rattle.geo_base.specs.declared.shapes.Square.{Square}
use Rattle.rect_sets.specs.Rects.{covers}
use Rattle.gate_shapes.proofs.Borders.{flank_law}
use Rattle.gate_shapes.proofs.border.edges_on.Goals as goal

pub returns : goal.returns
returns c =
    let cut : (s : Square) → covers c.in_ok-touched.touched s ≡ (covers c.in_ok-out.out s && covers c.args.ends.now s) =
    λ s. c.in_ok-touched.ensures s ∙ ap (λ (a : List Rect). covers a s && covers c.rects-2.result.now s) c.rects.ensures.list ∙ ap (λ (a : List Rect). covers c.in_ok-out.out s && covers a s) c.rects-2.ensures.list in
    let rest : (s : Square) → covers c.in_ok-others.others s ≡ (covers c.in_ok-out.out s && not (covers c.args.ends.now s)) =
    λ s. c.in_ok-others.ensures s ∙ ap (λ (a : List Rect). covers a s && not (covers c.rects-4.result.now s)) c.rects-3.ensures.list ∙ ap (λ (a : List Rect). covers c.in_ok-out.out s && not (covers a s)) c.rects-4.ensures.list in
    flank_law c.args.side c.args.part.now c.args.ends.now c.in_ok-out.out c.in_ok-touched.touched c.in_ok-others.others c.in_ok-wide.wide c.in_ok-long.long c.in_ok-out.ensures cut rest c.in_ok-wide.ensures.count c.in_ok-long.ensures.count
