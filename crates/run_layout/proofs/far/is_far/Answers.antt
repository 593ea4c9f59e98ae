-- The hull by the one that the design has.
use Rattle.std.proofs.Common.{◌∙◌, sym, subst}
use Rattle.flat_layout.specs.Hull.{IsHullOf}
use Rattle.cell_graph.specs.Linked.{plain}
use Rattle.layout_shapes.proofs.Fitting.{hull_in}
use Rattle.layout_shapes.proofs.Outside.{far_by, not_far}
use Rattle.run_layout.proofs.far.is_far.Goals as goal

pub has_room-requires-clause-hull : goal.has_room-requires-clause-hull
has_room-requires-clause-hull c =
    (hull_in c.args.design.now c.args.cell c.in-Some.hull c.sound.ensures c.requires.inside (sym c.hull.ensures ∙ c.in-Some.is)).near

pub returns-in-Some : goal.returns-in-Some
returns-in-Some c =
    let d = plain c.args.design.now in
    far_by d c.args.reach c.args.cell c.in-Some.hull c.has_room.result (subst (IsHullOf d c.args.cell) (sym c.hull.ensures ∙ c.in-Some.is) (c.sound.ensures.hulls.each c.args.cell)) c.has_room.ensures

pub returns-in-None : goal.returns-in-None
returns-in-None c =
    let d = plain c.args.design.now in
    ((λ e. absurd (let z : ⊥ = cc in z)), λ f. absurd (not_far d c.args.reach c.args.cell (subst (IsHullOf d c.args.cell) (sym c.hull.ensures ∙ c.in-None.is) (c.sound.ensures.hulls.each c.args.cell)) f))
