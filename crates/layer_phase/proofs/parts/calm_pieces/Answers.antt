use Rattle.std.proofs.Common.{List, None, arith, sym, subst, ◌∙◌, ap, slice_index_or}
use Rattle.std.specs.List.{All}
use Rattle.geo_base.specs.Rects.{IsRect}
use Rattle.geo_base.specs.declared.shapes.Rect.{Rect}
use Rattle.rect_sets.specs.Rects.{covers}
use Rattle.cell_context.specs.declared.arrays.Visit.{Visit}
use Rattle.cell_context.specs.Over.{IsVisit, AreVisited}
use Rattle.cell_context.proofs.Visiting.{up_to}
use Rattle.cell_context.proofs.Gathering.{no_visit, visit_motion, stays_there}
use Rattle.layer_phase.proofs.Keeping.{IsCalmPart, BringsCalm, entry_of, right_more, brings_here, all_there, part_near}
use Rattle.layer_phase.proofs.parts.calm_pieces.Goals as goal

pub calm_part-requires-clause-entry : goal.calm_part-requires-clause-entry
calm_part-requires-clause-entry c =
    let each = subst (All (IsVisit c.args.reach c.args.work.now.design.now c.args.work.now.cell None c.args.window.now)) (sym c.deref-visit-items.ensures.value) c.in_ok-list.ensures.each in
    entry_of c.args.reach c.args.work.now.design.now c.args.work.now.zones.now c.args.work.now.cell c.args.name c.args.window.now _ c.requires.entries (each c.loop-visit.visit-index no_visit c.loop-visit-test.true)

pub push_images-requires-clause-near : goal.push_images-requires-clause-near
push_images-requires-clause-near c =
    let each = subst (All (IsVisit c.args.reach c.args.work.now.design.now c.args.work.now.cell None c.args.window.now)) (sym c.deref-visit-items.ensures.value) c.in_ok-list.ensures.each in
    visit_motion c.args.reach c.args.work.now.design.now c.args.work.now.cell None c.args.window.now _ c.sound.ensures (each c.loop-visit.visit-index no_visit c.loop-visit-test.true)

pub push_images-requires-clause-near_rects : goal.push_images-requires-clause-near_rects
push_images-requires-clause-near_rects c =
    let each = subst (All (IsVisit c.args.reach c.args.work.now.design.now c.args.work.now.cell None c.args.window.now)) (sym c.deref-visit-items.ensures.value) c.in_ok-list.ensures.each in
    let h = each c.loop-visit.visit-index no_visit c.loop-visit-test.true in
    let v = slice_index_or c.deref-visit-items.result.now c.loop-visit.visit-index no_visit in
    let calm : IsCalmPart c.args.reach c.args.work.now.zones.now c.args.name v c.rects.result.now = λ e at s. ap (λ (l : List Rect). covers l s) c.rects.ensures.list ∙ c.in_ok-keep.ensures e at s in
    part_near c.args.reach c.args.work.now.zones.now c.args.name v c.rects.result.now h.near (entry_of c.args.reach c.args.work.now.design.now c.args.work.now.zones.now c.args.work.now.cell c.args.name c.args.window.now v c.requires.entries h) calm
    (subst (All IsRect) (sym c.rects.ensures.list) c.rects.ensures.sound)

pub loop-visit-preserved : goal.loop-visit-preserved
loop-visit-preserved c =
    let each = subst (All (IsVisit c.args.reach c.args.work.now.design.now c.args.work.now.cell None c.args.window.now)) (sym c.deref-visit-items.ensures.value) c.in_ok-list.ensures.each in
    let h = each c.loop-visit.visit-index no_visit c.loop-visit-test.true in
    let v = slice_index_or c.deref-visit-items.result.now c.loop-visit.visit-index no_visit in
    let calm : IsCalmPart c.args.reach c.args.work.now.zones.now c.args.name v c.rects.result.now = λ e at s. ap (λ (l : List Rect). covers l s) c.rects.ensures.list ∙ c.in_ok-keep.ensures e at s in
    let adds = c.in_ok-push_images.ensures.covers in
    record {
      pieces = c.in_ok-push_images.ensures.pieces;
      right = right_more c.args.reach c.args.work.now.design.now c.args.work.now.zones.now c.args.work.now.cell c.args.name c.args.window.now c.loop-visit.out.items c.push_images.new.out.items c.rects.result.now v c.requires.entries h c.loop-visit.invariant.right calm adds;
      found = up_to (λ k. BringsCalm c.args.reach c.args.work.now.zones.now c.args.name c.args.window.now c.push_images.new.out.items (slice_index_or c.deref-visit-items.result.now k no_visit)) c.loop-visit.visit-index
          (λ k lt e s a b d f. stays_there c.loop-visit.out.items c.push_images.new.out.items c.rects.result.now v.motion c.args.window.now adds _ (c.loop-visit.invariant.found k lt e s a b d f))
          (brings_here c.args.reach c.args.work.now.zones.now c.args.name c.args.window.now c.loop-visit.out.items c.push_images.new.out.items c.rects.result.now v calm adds);
    }

pub returns-clause-exact : goal.returns-clause-exact
returns-clause-exact c = λ q. (
  c.loop-visit.invariant.right q,
  λ h.
      all_there c.args.reach c.args.work.now.design.now c.args.work.now.zones.now c.args.work.now.cell c.args.name c.args.window.now c.loop-visit.out.items c.deref-visit-items.result.now no_visit
      (λ k lt. c.loop-visit.invariant.found k (let past = c.loop-visit-test.false in omega arith))
      (subst (λ (l : List Visit). AreVisited c.args.reach c.args.work.now.design.now c.args.work.now.cell None c.args.window.now l) (sym c.deref-visit-items.ensures.value) c.in_ok-list.ensures.found) q h.0 h.1,
)
