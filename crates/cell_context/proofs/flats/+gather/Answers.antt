use Rattle.std.proofs.Common.{List, arith, sym, subst, ◌∙◌, slice_index_or}
use Rattle.std.specs.List.{All}
use Rattle.geo_base.specs.Near.{IsNearRect}
use Rattle.geo_base.specs.declared.shapes.Rect.{Rect}
use Rattle.cell_context.specs.declared.arrays.Visit.{Visit}
use Rattle.cell_context.specs.Over.{IsVisit, AreVisited}
use Rattle.cell_context.proofs.Visiting.{up_to}
use Rattle.cell_context.proofs.Gathering.{no_visit, visit_lower, visit_motion, visit_window, pieces_near, right_more, stays_there, brings_here, all_there, start_right, start_own, Brings, Adds}
use Rattle.cell_context.proofs.flats.+gather.Goals as goal

pub loop-visit-init : goal.loop-visit-init
loop-visit-init t c = record {
  pieces = c.in_ok-push_pieces.ensures.pieces;
  right = start_right c.args.design.now c.args.cell c.args.skip c.args.key c.args.window.now c.new-out.result.items c.push_pieces.new.out.items c.rects.result.now c.new-out.ensures.items (c.rects.ensures.list ∙ c.own.ensures) c.in_ok-push_pieces.ensures.covers;
  own = start_own c.args.design.now c.args.cell c.args.key c.args.window.now c.new-out.result.items c.push_pieces.new.out.items c.rects.result.now (c.rects.ensures.list ∙ c.own.ensures) c.in_ok-push_pieces.ensures.covers;
  found = λ k lt. absurd (let z : ⊥ = omega arith in z);
}

pub gather-requires : goal.gather-requires
gather-requires t c =
    let each = subst (All (IsVisit 0 c.args.design.now c.args.cell c.args.skip c.args.window.now)) (sym c.deref-visit-items.ensures.value) c.in_ok-list.ensures.each in
    let v = each c.loop-visit.visit-index no_visit c.loop-visit-test.true in
    let low = visit_lower 0 c.args.design.now c.args.cell c.args.skip c.args.window.now _ c.sound.ensures v in
    let lt = low.1 in let d = c.decreases in
    (omega arith, (low.0, visit_window 0 c.args.design.now c.args.cell c.args.skip c.args.window.now _ v))

pub push_images-requires-clause-near : goal.push_images-requires-clause-near
push_images-requires-clause-near t c =
    let each = subst (All (IsVisit 0 c.args.design.now c.args.cell c.args.skip c.args.window.now)) (sym c.deref-visit-items.ensures.value) c.in_ok-list.ensures.each in
    let v = each c.loop-visit.visit-index no_visit c.loop-visit-test.true in
    visit_motion 0 c.args.design.now c.args.cell c.args.skip c.args.window.now _ c.sound.ensures v

pub loop-visit-preserved : goal.loop-visit-preserved
loop-visit-preserved t c =
    let each = subst (All (IsVisit 0 c.args.design.now c.args.cell c.args.skip c.args.window.now)) (sym c.deref-visit-items.ensures.value) c.in_ok-list.ensures.each in
    let h = each c.loop-visit.visit-index no_visit c.loop-visit-test.true in
    let v = slice_index_or c.deref-visit-items.result.now c.loop-visit.visit-index no_visit in
    let adds = subst (λ (l : List Rect). Adds c.loop-visit.out.items c.push_images.new.out.items l v.motion c.args.window.now) c.deref-in-loop-visit.ensures.value c.in_ok-push_images.ensures.covers in
    record {
      pieces = c.in_ok-push_images.ensures.pieces;
      right = right_more c.args.design.now c.args.cell c.args.skip c.args.key c.args.window.now c.loop-visit.out.items c.push_images.new.out.items c.in_ok-below.below.items v c.sound.ensures h c.loop-visit.invariant.right c.in_ok-below.ensures.exact adds;
      own = λ q e g. stays_there c.loop-visit.out.items c.push_images.new.out.items c.in_ok-below.below.items v.motion c.args.window.now adds q (c.loop-visit.invariant.own q e g);
      found = up_to (λ k. Brings c.args.design.now c.args.key c.args.window.now c.push_images.new.out.items (slice_index_or c.deref-visit-items.result.now k no_visit)) c.loop-visit.visit-index
          (λ k lt r a b d. stays_there c.loop-visit.out.items c.push_images.new.out.items c.in_ok-below.below.items v.motion c.args.window.now adds _ (c.loop-visit.invariant.found k lt r a b d))
          (brings_here c.args.design.now c.args.key c.args.window.now c.loop-visit.out.items c.push_images.new.out.items c.in_ok-below.below.items v c.sound.ensures c.in_ok-below.ensures.exact adds);
    }

pub returns-clause-exact : goal.returns-clause-exact
returns-clause-exact t c = λ q. (
  c.loop-visit.invariant.right q,
  λ h.
      all_there c.args.design.now c.args.cell c.args.skip c.args.key c.args.window.now c.loop-visit.out.items c.deref-visit-items.result.now no_visit c.sound.ensures c.loop-visit.invariant.own
      (λ k lt. c.loop-visit.invariant.found k (let past = c.loop-visit-test.false in omega arith))
      (subst (λ (l : List Visit). AreVisited 0 c.args.design.now c.args.cell c.args.skip c.args.window.now l) (sym c.deref-visit-items.ensures.value) c.in_ok-list.ensures.found) q h.0 h.1,
)

pub push_images-requires-clause-near_rects : goal.push_images-requires-clause-near_rects
push_images-requires-clause-near_rects t c =
    let each = subst (All (IsVisit 0 c.args.design.now c.args.cell c.args.skip c.args.window.now)) (sym c.deref-visit-items.ensures.value) c.in_ok-list.ensures.each in
    let v = each c.loop-visit.visit-index no_visit c.loop-visit-test.true in
    subst (λ (l : List Rect). All IsNearRect l) (sym c.deref-in-loop-visit.ensures.value)
    (pieces_near (slice_index_or c.deref-visit-items.result.now c.loop-visit.visit-index no_visit).window c.in_ok-below.below.items (visit_window 0 c.args.design.now c.args.cell c.args.skip c.args.window.now _ v) c.in_ok-below.ensures.pieces)
