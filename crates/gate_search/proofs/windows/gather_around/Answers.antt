use Rattle.std.proofs.Common.{◌∙◌, ap, sym, subst, map, List}
use Rattle.std.specs.List.{All}
use Rattle.geo_base.specs.Near.{IsNearRect}
use Rattle.geo_base.specs.Rects.{IsRect}
use Rattle.geo_base.specs.declared.shapes.Rect.{Rect}
use Rattle.rect_sets.proofs.Moving.{near_rects}
use Rattle.gate_shapes.specs.Borders.{grown_rect}
use Rattle.gate_shapes.proofs.Rings.{grown_rects}
use Rattle.gate_search.proofs.Gathering.{around_law}
use Rattle.gate_search.proofs.windows.gather_around.Goals as goal

pub grown-requires : goal.grown-requires
grown-requires g c = subst (λ (l : List Rect). All IsNearRect l) (sym c.rects.ensures.list) (near_rects c.args.seeds.now c.rects.ensures.canonical c.requires)

pub gather-requires : goal.gather-requires
gather-requires g c =
    subst (λ (l : List Rect). All IsRect l) (sym (c.deref.ensures.value ∙ c.in_ok-windows.ensures ∙ ap (map grown_rect) c.rects.ensures.list)) (grown_rects c.args.seeds.now c.rects.ensures.canonical)

pub returns : goal.returns
returns g c =
    let is = c.deref.ensures.value ∙ c.in_ok-windows.ensures ∙ ap (map grown_rect) c.rects.ensures.list in
    around_law (g.L.GateLayer.keeps c.args.layer.now) c.args.seeds.now c.deref.result.now c.in_ok-found.found c.rects.ensures.canonical is c.in_ok-found.ensures
