-- The hull by the one that the design has.
use Rattle.std.proofs.Common.{◌^◌, ◌∙◌, sym, subst, arith}
use Rattle.std.specs.Bool.{Decides}
use Rattle.geo_base.specs.declared.shapes.Rect.{Rect}
use Rattle.flat_layout.specs.Hull.{IsHullOf}
use Rattle.cell_graph.specs.Linked.{IsRectWithin, plain}
use Rattle.cell_context.proofs.Visiting.{wider_rect}
use Rattle.layout_shapes.proofs.Fitting.{hull_in}
use Rattle.layout_shapes.proofs.Outside.{far_by, not_far}
use Rattle.layout_shapes.proofs.wide.is_far_out.Goals as goal

pub grown-requires : goal.grown-requires
grown-requires c =
    let hull = hull_in c.args.design.now c.args.cell c.in-Some.hull c.sound.ensures c.requires.inside (sym c.hull.ensures ∙ c.in-Some.is) in
    wider_rect (2 ^ 36) (2 ^ 39) c.in-Some.hull (omega arith) hull.near

pub returns-in-Some : goal.returns-in-Some
returns-in-Some c =
    let d = plain c.args.design.now in
    far_by d c.args.reach c.args.cell c.in-Some.hull c.is_near_rect.result (subst (IsHullOf d c.args.cell) (sym c.hull.ensures ∙ c.in-Some.is) (c.sound.ensures.hulls.each c.args.cell))
    (subst (λ (r : Rect). Decides c.is_near_rect.result (IsRectWithin (2 ^ 36) r)) c.grown.ensures c.is_near_rect.ensures)

pub returns-in-None : goal.returns-in-None
returns-in-None c =
    let d = plain c.args.design.now in
    ((λ e. absurd (let z : ⊥ = cc in z)), λ f. absurd (not_far d c.args.reach c.args.cell (subst (IsHullOf d c.args.cell) (sym c.hull.ensures ∙ c.in-None.is) (c.sound.ensures.hulls.each c.args.cell)) f))
