use Rattle.std.proofs.Common.{◌≡◌, ◌&&◌, ◌∙◌, ap, not, map, List, subst, sym}
use Rattle.std.specs.List.{All}
use Rattle.geo_base.specs.Near.{IsNearRect}
use Rattle.geo_base.specs.Rects.{IsRect}
use Rattle.geo_base.specs.declared.shapes.Rect.{Rect}
use Rattle.geo_base.specs.declared.shapes.Square.{Square}
use Rattle.rect_sets.specs.Rects.{covers}
use Rattle.rect_sets.proofs.Moving.{near_rects}
use Rattle.gate_shapes.specs.Borders.{grown_rect}
use Rattle.gate_shapes.proofs.Rings.{sides_law, grown_rects}
use Rattle.gate_shapes.proofs.border.sides_of.Goals as goal

pub grown-requires : goal.grown-requires
grown-requires c = subst (λ (l : List Rect). All IsNearRect l) (sym c.rects.ensures.list) (near_rects c.args.part.now c.rects.ensures.canonical c.requires)

pub combine_rects-requires-clause-a : goal.combine_rects-requires-clause-a
combine_rects-requires-clause-a c =
    subst (λ (l : List Rect). All IsRect l) (sym (c.deref.ensures.value ∙ c.in_ok-around.ensures ∙ ap (map grown_rect) c.rects.ensures.list)) (grown_rects c.args.part.now c.rects.ensures.canonical)

pub returns : goal.returns
returns c =
    let part = c.args.part.now in let ends = c.args.ends.now in
    let around = c.deref.ensures.value ∙ c.in_ok-around.ensures ∙ ap (map grown_rect) c.rects.ensures.list in
    let cut : (s : Square) → covers c.in_ok-near.near s ≡ (covers (map grown_rect part) s && covers ends s) =
    λ s. c.in_ok-near.ensures s ∙ ap (λ (a : List Rect). covers a s && covers c.rects-2.result.now s) around ∙ ap (λ (a : List Rect). covers (map grown_rect part) s && covers a s) c.rects-2.ensures.list in
    let rest : (s : Square) → covers c.in_ok-sides.sides s ≡ (covers c.in_ok-near.near s && not (covers part s)) =
    λ s. c.in_ok-sides.ensures s ∙ ap (λ (a : List Rect). covers a s && not (covers c.rects-4.result.now s)) c.rects-3.ensures.list ∙ ap (λ (a : List Rect). covers c.in_ok-near.near s && not (covers a s)) c.rects-4.ensures.list in
    sides_law part ends c.in_ok-near.near c.in_ok-sides.sides c.rects.ensures.canonical cut rest
