use Rattle.std.proofs.Common.{◌∙◌, sym, subst}
use Rattle.cell_graph.specs.Linked.{HullIsSound}
use Rattle.cell_graph.proofs.Bridge.{hull_sound}
use Rattle.gate_phase.proofs.Freeing.{free_in, not_free_in}
use Rattle.gate_phase.proofs.Results.{if_ok}
use Rattle.gate_phase.proofs.below.is_free_visit.Goals as goal

pub grown_hull-frame-requires-clause-hull : goal.grown_hull-frame-requires-clause-hull
grown_hull-frame-requires-clause-hull c = subst HullIsSound (sym c.hull.ensures ∙ c.in-Some.is) (hull_sound c.args.at.now.site.design.now c.args.visit.now.cell c.sound.ensures)

pub returns-in_ok-there-in-Some : goal.returns-in_ok-there-in-Some
returns-in_ok-there-in-Some c =
    if_ok _ _ c.is_mine.result
    (λ b told.
    free_in c.args.at.now.reach c.args.at.now.site.design.now c.args.at.now.site.zones.now c.args.at.now.number c.args.part.now c.args.close.now c.args.visit.now.cell c.args.visit.now.motion c.in-Some.hull c.grown_hull-frame.result c.indexed-zone.result.now (sym c.hull.ensures ∙ c.in-Some.is) c.grown_hull-frame.ensures.grown c.indexed-zone.ensures c.in_ok-there-in-Some.there _ b (c.in_ok-is_free-in-Some.ensures.0 c.if-not-branch.false) c.in_ok-there-in-Some.ensures c.lone.ensures told)
    c.is_mine.ensures

pub returns-then-not-branch : goal.returns-then-not-branch
returns-then-not-branch c =
    not_free_in c.args.at.now.reach c.args.at.now.site.design.now c.args.at.now.site.zones.now c.args.at.now.number c.args.part.now c.args.close.now c.args.visit.now.cell c.args.visit.now.motion c.in-Some.hull c.grown_hull-frame.result c.indexed-zone.result.now (sym c.hull.ensures ∙ c.in-Some.is) c.grown_hull-frame.ensures.grown c.indexed-zone.ensures _ c.in_ok-is_free-in-Some.ensures c.if-not-branch.true
