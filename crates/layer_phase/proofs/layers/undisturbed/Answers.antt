use Rattle.std.proofs.Common.{◌∙◌, ◌&&◌, not, List, ap}
use Rattle.geo_base.specs.declared.shapes.Rect.{Rect}
use Rattle.rect_sets.specs.Rects.{covers}
use Rattle.layer_phase.proofs.Results.{if_ok}
use Rattle.layer_phase.proofs.layers.undisturbed.Goals as goal

pub returns : goal.returns
returns c =
    if_ok _ _ c.without.result
    (λ r h q. h q ∙ ap (λ b. covers c.args.squares q && not b) (ap (λ (l : List Rect). covers l q) c.set.ensures ∙ c.in_ok-stirred.ensures.squares q))
    c.without.ensures
