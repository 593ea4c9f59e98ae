use Rattle.std.proofs.Common.{◌^◌, subst, sym, ◌∙◌, arith}
use Rattle.cell_context.proofs.Visiting.{wider_rect}
use Rattle.cell_graph.proofs.Bridge.{hull_sound}
use Rattle.cell_graph.specs.Linked.{HullIsSound, IsHull}
use Rattle.view_drawing.proofs.placed.bound_at.Goals as goal

pub grown-requires : goal.grown-requires
grown-requires c =
    let h : IsHull c.in-Some.hull = subst HullIsSound (sym c.hull.ensures ∙ c.in-Some.is) (hull_sound c.args.design.now c.args.cell c.sound.ensures) in
    wider_rect (2 ^ 36) (2 ^ 39) c.in-Some.hull (omega arith) h.near
