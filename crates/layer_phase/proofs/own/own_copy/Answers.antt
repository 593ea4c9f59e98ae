use Rattle.std.proofs.Common.{◌∙◌, List, ap}
use Rattle.geo_base.specs.declared.shapes.Rect.{Rect}
use Rattle.rect_sets.specs.Rects.{covers}
use Rattle.layer_phase.proofs.Results.{if_ok}
use Rattle.layer_phase.proofs.own.own_copy.Goals as goal

pub returns : goal.returns
returns c = if_ok _ _ c.try_clone.result (λ r h q. ap (λ (l : List Rect). covers l q) (h ∙ c.own.ensures)) c.try_clone.ensures
