use Rattle.std.proofs.Common.{◌<◌, ℕ, List, arith, sym, subst, slice_index_or}
use Rattle.std.specs.List.{All}
use Rattle.geo_base.specs.Near.{IsNearMotion}
use Rattle.geo_base.specs.declared.shapes.Square.{Square}
use Rattle.cell_context.specs.declared.arrays.Visit.{Visit}
use Rattle.cell_context.specs.Visits.{IsElementVisit, IsFound, IsMet}
use Rattle.cell_context.proofs.Gathering.{no_visit, stays_there}
use Rattle.cell_context.proofs.Visiting.{near_motion, up_to}
use Rattle.cell_context.proofs.Bringing.{BringsVisit, all_brought, visit_here}
use Rattle.cell_context.proofs.placed.push_array.Goals as goal

pub push_images-requires-clause-near : goal.push_images-requires-clause-near
push_images-requires-clause-near c =
    let each = subst (All (IsElementVisit c.args.place.now c.args.frame.now c.args.window.now)) (sym c.deref-visit-items.ensures.value) c.in_ok-place_visits.ensures.each in
    let h = each c.loop-visit.visit-index no_visit c.loop-visit-test.true in
    subst IsNearMotion (sym h.motion) (near_motion c.args.place.now h.row h.column c.requires.near h.row_in h.column_in)

pub loop-visit-preserved : goal.loop-visit-preserved
loop-visit-preserved c =
    let old = c.loop-visit.out.items in let new = c.push_images.new.out.items in let rects = c.args.rects.now in let w = c.args.window.now in
    let v = slice_index_or c.deref-visit-items.result.now c.loop-visit.visit-index no_visit in
    let adds = c.in_ok-push_images.ensures.covers in
    record {
      pieces = c.in_ok-push_images.ensures.pieces;
      grows = λ q e. stays_there old new rects v.motion w adds q (c.loop-visit.invariant.grows q e);
      found = up_to (λ k. BringsVisit rects w new (slice_index_or c.deref-visit-items.result.now k no_visit)) c.loop-visit.visit-index
          (λ k lt s e g. stays_there old new rects v.motion w adds _ (c.loop-visit.invariant.found k lt s e g))
          (visit_here rects old new w v adds);
    }

pub returns-clause-brings : goal.returns-clause-brings
returns-clause-brings c =
    let p = c.args.place.now in
    all_brought p c.args.frame.now c.args.window.now c.args.rects.now c.loop-visit.out.items c.deref-visit-items.result.now no_visit
    (λ k lt. c.loop-visit.invariant.found k (let past = c.loop-visit-test.false in omega arith))
    (subst (λ (l : List Visit). (row column : ℕ) (q : Square) → row < p.rows → column < p.columns → IsMet p c.args.frame.now c.args.window.now row column q → IsFound p row column q l) (sym c.deref-visit-items.ensures.value) c.in_ok-place_visits.ensures.found)
