use Rattle.std.proofs.Common.{◌<◌, ℕ, List, arith, sym, subst}
use Rattle.std.specs.List.{All}
use Rattle.geo_base.specs.Near.{IsNearMotion, IsNearRect}
use Rattle.geo_base.specs.declared.shapes.Rect.{Rect}
use Rattle.geo_base.specs.declared.shapes.Square.{Square}
use Rattle.rect_sets.proofs.Moving.{near_rects}
use Rattle.cell_context.specs.declared.arrays.Visit.{Visit}
use Rattle.cell_context.specs.Visits.{IsElementVisit, IsFound, IsMet}
use Rattle.cell_context.proofs.Visiting.{near_motion}
use Rattle.gate_shapes.specs.Sets.{in_set}
use Rattle.select_phase.specs.Lifted.{Lands, Lifts}
use Rattle.select_phase.proofs.Lifting.{lifted_all, lifted_more}
use Rattle.cell_context.proofs.Gathering.{no_visit}
use Rattle.select_phase.proofs.candidates.push_lifted.Goals as goal

pub push_images-requires-clause-near : goal.push_images-requires-clause-near
push_images-requires-clause-near c =
    let each = subst (All (IsElementVisit c.args.place.now c.args.frame.now c.args.plane.now)) (sym c.deref-visit-items.ensures.value) c.in_ok-place_visits.ensures.each in
    let h = each c.loop-visit.visit-index no_visit c.loop-visit-test.true in
    subst IsNearMotion (sym h.motion) (near_motion c.args.place.now h.row h.column c.requires.near h.row_in h.column_in)

pub push_images-requires-clause-near_rects : goal.push_images-requires-clause-near_rects
push_images-requires-clause-near_rects c = subst (λ (l : List Rect). All IsNearRect l) (sym c.rects-rects.ensures.list) (near_rects c.args.set.now c.rects-rects.ensures.canonical c.requires.near_set)

pub loop-visit-preserved : goal.loop-visit-preserved
loop-visit-preserved c =
    let p = c.args.place.now in let frame = c.args.frame.now in let plane = c.args.plane.now in
    let each = subst (All (IsElementVisit p frame plane)) (sym c.deref-visit-items.ensures.value) c.in_ok-place_visits.ensures.each in
    let lands = subst (λ (l : List Rect). Lands p l plane) (sym c.rects-rects.ensures.list) c.requires.lands in
    record {
      pieces = c.in_ok-push_images.ensures.pieces;
      lifts = lifted_more p frame plane c.rects-rects.result.now c.args.out.now.items c.loop-visit.out.items c.push_images.new.out.items c.deref-visit-items.result.now c.loop-visit.visit-index
          (each c.loop-visit.visit-index no_visit c.loop-visit-test.true) lands c.in_ok-push_images.ensures.covers c.loop-visit.invariant.lifts;
    }

pub returns-clause-lifts : goal.returns-clause-lifts
returns-clause-lifts c =
    let p = c.args.place.now in let frame = c.args.frame.now in let plane = c.args.plane.now in
    let list = c.rects-rects.ensures.list in
    let found = subst (λ (l : List Visit). (row column : ℕ) (q : Square) → row < p.rows → column < p.columns → IsMet p frame plane row column q → IsFound p row column q l) (sym c.deref-visit-items.ensures.value) c.in_ok-place_visits.ensures.found in
    subst (λ (l : List Rect). Lifts p l c.args.out.now.items c.loop-visit.out.items) list
    (lifted_all p frame plane c.rects-rects.result.now c.args.out.now.items c.loop-visit.out.items c.deref-visit-items.result.now c.loop-visit.visit-index (let past = c.loop-visit-test.false in omega arith)
    (λ q e. c.requires.held q (subst (λ (l : List Rect). in_set l q) list e)) (subst (λ (l : List Rect). Lands p l plane) (sym list) c.requires.lands) found c.loop-visit.invariant.lifts)
