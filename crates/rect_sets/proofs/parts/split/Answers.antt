use Rattle.std.proofs.Common.{arith, pos, refl, sym, ap, ◌∙◌, ◌++◌, List}
use Rattle.geo_base.specs.declared.shapes.Rect.{Rect}
use Rattle.rect_sets.specs.Stripes.{list_at, stripe}
use Rattle.rect_sets.proofs.Dividing.{loop_more}
use Rattle.rect_sets.proofs.Striping.{none_more, stripe_append, stripe_none}
use Rattle.rect_sets.proofs.parts.split.Goals as goal

pub loop-rect-init : goal.loop-rect-init
loop-rect-init c = record {
  count = refl;
  lists = λ j. sym (ap (λ (q : List Rect). list_at c.args.parts.now.items j ++ q) (stripe_none j c.args.lines.now.axis c.args.lines.now.at.items) ∙ none_more (list_at c.args.parts.now.items j));
}

pub loop-rect-preserved : goal.loop-rect-preserved
loop-rect-preserved c =
    let zero : Rect = record { x1 = pos 0; y1 = pos 0; x2 = pos 0; y2 = pos 0 } in
    let axis = c.args.lines.now.axis in let at = c.args.lines.now.at.items in
    record {
      count = c.in_ok-push_parts.ensures.count ∙ c.loop-rect.invariant.count;
      lists = λ j. c.in_ok-push_parts.ensures.lists j ∙
          loop_more (λ (q : List Rect). stripe j axis at q) (λ xs ys. stripe_append j axis at xs ys) c.args.rects.now c.loop-rect.rect-index zero (list_at c.args.parts.now.items j) (list_at c.loop-rect.parts.items j) (omega arith) (c.loop-rect.invariant.lists j);
    }
