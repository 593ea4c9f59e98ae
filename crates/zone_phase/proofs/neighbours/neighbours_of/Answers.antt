use Rattle.std.proofs.Common.{◌≡◌, ◌^◌, arith, ◌∙◌, Some, ap, sym, subst, length}
use Rattle.geo_base.specs.declared.shapes.Rect.{Rect}
use Rattle.cell_graph.specs.Linked.{HullIsSound, IsFrame, IsHull}
use Rattle.cell_graph.proofs.Bridge.{hull_sound}
use Rattle.cell_context.proofs.Visiting.{wider_rect}
use Rattle.cell_graph.proofs.Growing.{grown_frame}
use Rattle.deep_tables.specs.Frames.{grown}
use Rattle.zone_phase.specs.Neighbours.{AreAllNear}
use Rattle.zone_phase.proofs.neighbours.neighbours_of.Goals as goal

pub grown-requires : goal.grown-requires
grown-requires c =
    let h : IsHull c.in-Some.hull = subst HullIsSound (sym c.hull.ensures ∙ c.in-Some.is) (hull_sound c.args.used.now.design.now c.args.used.now.cell c.sound.ensures) in
    wider_rect (2 ^ 36) (2 ^ 39) c.in-Some.hull (omega arith) h.near

pub find_neighbours-requires-clause-grown : goal.find_neighbours-requires-clause-grown
find_neighbours-requires-clause-grown c = subst IsFrame (sym c.grown.ensures) (grown_frame c.args.used.now.margin c.in-Some.hull c.requires.used.margin (subst HullIsSound (sym c.hull.ensures ∙ c.in-Some.is) (hull_sound c.args.used.now.design.now c.args.used.now.cell c.sound.ensures)))

one_rect : (g h : Rect) → Some g ≡ Some h → g ≡ h
one_rect g h e = cc

pub returns-in_ok-list-in-Some : goal.returns-in_ok-list-in-Some
returns-in_ok-list-in-Some c = λ h is.
    let d = c.args.used.now.design.now in let uses = c.args.used.now.uses.now in let e = c.in_ok-list-in-Some.ensures in
    let same = one_rect c.in-Some.hull h (sym (sym c.hull.ensures ∙ c.in-Some.is) ∙ is) in
    (e.each, subst (λ (g : Rect). AreAllNear d g uses (length uses) c.in_ok-list-in-Some.list.items) (c.grown.ensures ∙ ap (grown c.args.used.now.margin) same) e.all)
