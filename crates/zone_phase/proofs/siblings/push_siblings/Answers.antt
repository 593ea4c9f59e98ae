use Rattle.std.proofs.Common.{◌≡◌, ◌∙◌, ◌++◌, ◌||◌, ◌&&◌, List, ap, sym, subst}
use Rattle.std.specs.List.{All}
use Rattle.geo_base.specs.Near.{IsNearRect}
use Rattle.geo_base.specs.Motions.{moved_square}
use Rattle.geo_base.specs.Rects.{has}
use Rattle.geo_base.specs.declared.shapes.Rect.{Rect}
use Rattle.geo_base.specs.declared.shapes.Square.{Square}
use Rattle.rect_sets.specs.Rects.{covers}
use Rattle.cell_context.proofs.Gathering.{pieces_near}
use Rattle.zone_phase.proofs.Gathered.{siblings_add}
use Rattle.zone_phase.proofs.siblings.push_siblings.Goals as goal

pub push_images-requires-clause-near_rects : goal.push_images-requires-clause-near_rects
push_images-requires-clause-near_rects c =
    subst (λ (l : List Rect). All IsNearRect l) (sym c.deref.ensures.value) (pieces_near c.element_rect-window.result c.push_others.new.there.items c.element_rect-window.ensures.near c.in_ok-push_others.ensures.pieces)

pub returns-clause-exact : goal.returns-clause-exact
returns-clause-exact c =
    siblings_add c.args.frame.now.design.now c.args.place.now c.args.frame.now.key c.args.frame.now.grown c.element_rect-window.result c.motion_at-first.result c.inverse.result
    c.new-there.result.items c.push_others.new.there.items
    c.new-more.result.items c.push_images.new.out.items c.args.out.now.items c.extend_from_slice.new.self.items
    c.requires.array.rows c.requires.array.columns c.requires.grown.some c.new-there.ensures.items c.new-more.ensures.items
    c.motion_at-first.ensures.exact c.element_rect-window.ensures.exact c.inverse.ensures.back
    c.in_ok-push_others.ensures.exact
    (subst (λ (l : List Rect). (s : Square) → covers c.push_images.new.out.items (moved_square c.inverse.result s) ≡ (covers c.new-more.result.items (moved_square c.inverse.result s) || (covers l s && has c.args.frame.now.grown (moved_square c.inverse.result s)))) c.deref.ensures.value c.in_ok-push_images.ensures.covers)
    (c.in_ok-extend_from_slice.ensures.items ∙ ap (λ (l : List Rect). c.args.out.now.items ++ l) c.deref-2.ensures.value)
