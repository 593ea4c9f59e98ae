use Rattle.std.proofs.Common.{rules, length, ◌≤◌, ◌∙◌, ◌||◌, false, ap, List}
use Rattle.base_laws.proofs.Tests.{or_false}
use Rattle.geo_base.specs.declared.shapes.Rect.{Rect}
use Rattle.rect_sets.specs.Rects.{covers}
use Rattle.rect_sets.proofs.Single.{few_canonical}
use Rattle.rect_sets.proofs.set.RectSet.canon.Goals as goal

pub returns : goal.returns
returns c = λ s. c.in_ok-set.ensures s ∙ ap (λ (l : List Rect). covers l s || false) c.deref.ensures.value ∙ or_false (covers c.args.rects.items s)

pub invariant_of-result : goal.invariant_of-result
invariant_of-result c = few_canonical c.args.rects.items c.requires (let le : length c.args.rects.items ≤ 1 = search rules in le)
