use Rattle.std.proofs.Common.{List, subst, sym}
use Rattle.geo_base.specs.declared.shapes.Rect.{Rect}
use Rattle.std.specs.List.{All}
use Rattle.view_words.specs.Numbers.{IsSmallRect}
use Rattle.view_drawing.proofs.Placing.{all_one}
use Rattle.view_drawing.proofs.regions.keep.Goals as goal

pub returns-clause-small : goal.returns-clause-small
returns-clause-small c h = subst (λ (l : List Rect). All IsSmallRect l) (sym c.in_ok-push.ensures.items) (all_one IsSmallRect c.args.out.now.items c.args.rect h c.requires)
