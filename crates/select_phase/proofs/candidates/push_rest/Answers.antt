use Rattle.std.proofs.Common.{◌≡◌, ◌^◌, true, Option, Some, None, get_or, arith, sym, ◌∙◌, subst}
use Rattle.geo_base.specs.Rects.{has}
use Rattle.geo_base.specs.declared.shapes.Rect.{Rect}
use Rattle.cell_graph.specs.Grown.{IsInGrown}
use Rattle.cell_graph.specs.Linked.{HullIsSound, IsFrame}
use Rattle.cell_graph.proofs.Bridge.{hull_sound, lower, reference_at}
use Rattle.cell_graph.proofs.Growing.{grown_frame}
use Rattle.cell_context.proofs.Collecting.{near_array}
use Rattle.cell_context.proofs.Visiting.{wider_rect}
use Rattle.gate_phase.proofs.Holding.{held_near}
use Rattle.gate_phase.proofs.Results.{on_ok}
use Rattle.gate_shapes.specs.Sets.{in_set}
use Rattle.select_phase.specs.Found.{rest_of}
use Rattle.select_phase.specs.Lifted.{Lifts}
use Rattle.select_phase.specs.declared.cell.CellSelection.{CellSelection}
use Rattle.select_phase.proofs.Lifting.{lands_held, there_found}
use Rattle.select_phase.proofs.candidates.push_rest.Goals as goal

pub bounds-below-place : goal.bounds-below-place
bounds-below-place c =
    let inside = (lower c.args.site.now.design.now c.args.site.now.cell c.requires.place.0 c.args.place.now c.sound.ensures c.requires.place.1).0 in
    let count = c.requires.count in
    omega (arith, inside, count)

pub hull-requires : goal.hull-requires
hull-requires c = (lower c.args.site.now.design.now c.args.site.now.cell c.requires.place.0 c.args.place.now c.sound.ensures c.requires.place.1).0

pub grown-requires : goal.grown-requires
grown-requires c =
    let sound = subst HullIsSound (sym c.hull.ensures ∙ c.in-Some-hull.is) (hull_sound c.args.site.now.design.now c.args.place.now.cell c.sound.ensures) in
    wider_rect (2 ^ 36) (2 ^ 39) c.in-Some-hull.hull (omega arith) sound.near

pub push_lifted-requires-clause-near : goal.push_lifted-requires-clause-near
push_lifted-requires-clause-near c = near_array c.args.site.now.design.now c.args.site.now.cell c.requires.place.0 c.args.place.now c.sound.ensures c.requires.place.1

pub push_lifted-requires-clause-some : goal.push_lifted-requires-clause-some
push_lifted-requires-clause-some c = (reference_at c.args.site.now.design.now c.args.site.now.cell c.requires.place.0 c.args.place.now c.sound.ensures c.requires.place.1).2.columns

pub push_lifted-requires-clause-frame : goal.push_lifted-requires-clause-frame
push_lifted-requires-clause-frame c =
    let sound = subst HullIsSound (sym c.hull.ensures ∙ c.in-Some-hull.is) (hull_sound c.args.site.now.design.now c.args.place.now.cell c.sound.ensures) in
    let most = c.requires.reach in
    subst IsFrame (sym c.grown.ensures) (grown_frame c.args.reach c.in-Some-hull.hull (omega (arith, most)) sound)

pub push_lifted-requires-clause-held : goal.push_lifted-requires-clause-held
push_lifted-requires-clause-held c = λ q e.
    let is : get_or c.args.below.now c.args.place.now.cell None ≡ Some c.in-Some.found = there_found c.args.below.now c.args.place.now.cell c.index-below-place.result (let inside = (lower c.args.site.now.design.now c.args.site.now.cell c.requires.place.0 c.args.place.now c.sound.ensures c.requires.place.1).0 in let count = c.requires.count in omega (arith, inside, count)) c.index-below-place.is ∙ c.in-Some.is in
    let h = subst (λ (o : Option Rect). IsInGrown c.args.reach o q) (sym c.hull.ensures ∙ c.in-Some-hull.is) (c.requires.held q (subst (λ (o : Option CellSelection). in_set (rest_of o) q) (sym is) e)) in
    subst (λ (r : Rect). has r q ≡ true) (sym c.grown.ensures) h

pub push_lifted-requires-clause-near_set : goal.push_lifted-requires-clause-near_set
push_lifted-requires-clause-near_set c =
    let is : get_or c.args.below.now c.args.place.now.cell None ≡ Some c.in-Some.found = there_found c.args.below.now c.args.place.now.cell c.index-below-place.result (let inside = (lower c.args.site.now.design.now c.args.site.now.cell c.requires.place.0 c.args.place.now c.sound.ensures c.requires.place.1).0 in let count = c.requires.count in omega (arith, inside, count)) c.index-below-place.is ∙ c.in-Some.is in
    held_near c.args.reach c.args.site.now.design.now c.args.place.now.cell c.in-Some.found.rest c.requires.reach c.sound.ensures (λ q e. c.requires.held q (subst (λ (o : Option CellSelection). in_set (rest_of o) q) (sym is) e))

pub push_lifted-requires-clause-lands : goal.push_lifted-requires-clause-lands
push_lifted-requires-clause-lands c =
    let is : get_or c.args.below.now c.args.place.now.cell None ≡ Some c.in-Some.found = there_found c.args.below.now c.args.place.now.cell c.index-below-place.result (let inside = (lower c.args.site.now.design.now c.args.site.now.cell c.requires.place.0 c.args.place.now c.sound.ensures c.requires.place.1).0 in let count = c.requires.count in omega (arith, inside, count)) c.index-below-place.is ∙ c.in-Some.is in
    lands_held c.args.site.now.design.now c.args.site.now.cell c.requires.place.0 c.args.reach c.args.place.now c.in-Some.found.rest c.args.plane.now c.sound.ensures c.requires.reach c.requires.place.1 c.requires.all
    (λ q e. c.requires.held q (subst (λ (o : Option CellSelection). in_set (rest_of o) q) (sym is) e))

pub returns-in-Some-hull-clause-lifts : goal.returns-in-Some-hull-clause-lifts
returns-in-Some-hull-clause-lifts c =
    let is : get_or c.args.below.now c.args.place.now.cell None ≡ Some c.in-Some.found = there_found c.args.below.now c.args.place.now.cell c.index-below-place.result (let inside = (lower c.args.site.now.design.now c.args.site.now.cell c.requires.place.0 c.args.place.now c.sound.ensures c.requires.place.1).0 in let count = c.requires.count in omega (arith, inside, count)) c.index-below-place.is ∙ c.in-Some.is in
    on_ok _ _ c.push_lifted.result (λ h. subst (λ (o : Option CellSelection). Lifts c.args.place.now (rest_of o) c.args.out.now.items c.push_lifted.new.out.items) (sym is) h) c.push_lifted.ensures.lifts
