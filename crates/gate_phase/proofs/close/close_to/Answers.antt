use Rattle.std.proofs.Common.{◌∙◌, ap, sym, subst, map, List}
use Rattle.std.specs.List.{All}
use Rattle.geo_base.specs.Near.{IsNearRect}
use Rattle.geo_base.specs.Rects.{IsRect}
use Rattle.geo_base.specs.declared.shapes.Rect.{Rect}
use Rattle.rect_sets.proofs.Moving.{near_rects}
use Rattle.gate_shapes.specs.Borders.{grown_rect}
use Rattle.gate_shapes.proofs.Rings.{grown_rects}
use Rattle.gate_phase.proofs.Closing.{close_law}
use Rattle.gate_phase.proofs.Results.{if_ok}
use Rattle.gate_phase.proofs.close.close_to.Goals as goal

pub grown-requires : goal.grown-requires
grown-requires c = subst (λ (l : List Rect). All IsNearRect l) (sym c.rects.ensures.list) (near_rects c.args.part.now c.rects.ensures.canonical c.requires)

pub canon-requires : goal.canon-requires
canon-requires c = subst (λ (l : List Rect). All IsRect l) (sym (c.in_ok-windows.ensures ∙ ap (map grown_rect) c.rects.ensures.list)) (grown_rects c.args.part.now c.rects.ensures.canonical)

pub returns : goal.returns
returns c = if_ok _ _ c.canon.result (λ set same. close_law c.args.part.now c.in_ok-windows.windows.items set c.rects.ensures.canonical (c.in_ok-windows.ensures ∙ ap (map grown_rect) c.rects.ensures.list) same) c.canon.ensures
