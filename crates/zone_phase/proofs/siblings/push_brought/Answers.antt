use Rattle.std.proofs.Common.{◌≡◌, inl, inr, ◌<◌, ℕ, List, true, arith, sym, subst, slice_index_or}
use Rattle.std.specs.List.{All}
use Rattle.geo_base.specs.Near.{IsNearRect}
use Rattle.geo_base.specs.Rects.{has}
use Rattle.geo_base.specs.Motions.{moved_square}
use Rattle.geo_base.specs.declared.shapes.Rect.{Rect}
use Rattle.geo_base.specs.declared.shapes.Square.{Square}
use Rattle.rect_sets.specs.Rects.{covers}
use Rattle.flat_layout.specs.Layout.{InFlatInput}
use Rattle.cell_graph.specs.Linked.{plain}
use Rattle.cell_context.specs.declared.arrays.Visit.{Visit}
use Rattle.cell_context.specs.Visits.{IsElementVisit, IsMet, IsFound}
use Rattle.cell_context.proofs.Visiting.{up_to}
use Rattle.cell_context.proofs.Gathering.{no_visit, pieces_near, stays_there, Adds}
use Rattle.zone_phase.proofs.Bringing.{right_more, all_brought, visit_near, visit_within, brings_flat}
use Rattle.zone_phase.proofs.siblings.push_brought.Goals as goal

pub gather-requires-clause-window : goal.gather-requires-clause-window
gather-requires-clause-window c =
    let each = subst (All (IsElementVisit c.args.other.now c.args.hull.now c.args.window.now)) (sym c.deref-visit-items.ensures.value) c.in_ok-place_visits.ensures.each in
    visit_within c.args.other.now c.args.hull.now c.args.window.now _ (each c.loop-visit.visit-index no_visit c.loop-visit-test.true)

pub push_images-requires-clause-near : goal.push_images-requires-clause-near
push_images-requires-clause-near c =
    let each = subst (All (IsElementVisit c.args.other.now c.args.hull.now c.args.window.now)) (sym c.deref-visit-items.ensures.value) c.in_ok-place_visits.ensures.each in
    visit_near c.args.other.now c.args.hull.now c.args.window.now _ c.requires.near (each c.loop-visit.visit-index no_visit c.loop-visit-test.true)

pub push_images-requires-clause-near_rects : goal.push_images-requires-clause-near_rects
push_images-requires-clause-near_rects c =
    let each = subst (All (IsElementVisit c.args.other.now c.args.hull.now c.args.window.now)) (sym c.deref-visit-items.ensures.value) c.in_ok-place_visits.ensures.each in
    subst (λ (l : List Rect). All IsNearRect l) (sym c.deref.ensures.value)
    (pieces_near (slice_index_or c.deref-visit-items.result.now c.loop-visit.visit-index no_visit).window c.in_ok-below.below.items
    (visit_within c.args.other.now c.args.hull.now c.args.window.now _ (each c.loop-visit.visit-index no_visit c.loop-visit-test.true)) c.in_ok-below.ensures.pieces)

pub loop-visit-preserved : goal.loop-visit-preserved
loop-visit-preserved c =
    let each = subst (All (IsElementVisit c.args.other.now c.args.hull.now c.args.window.now)) (sym c.deref-visit-items.ensures.value) c.in_ok-place_visits.ensures.each in
    let h = each c.loop-visit.visit-index no_visit c.loop-visit-test.true in
    let v = slice_index_or c.deref-visit-items.result.now c.loop-visit.visit-index no_visit in
    let adds = subst (λ (l : List Rect). Adds c.loop-visit.there.items c.push_images.new.out.items l v.motion c.args.window.now) c.deref.ensures.value c.in_ok-push_images.ensures.covers in
    record {
      pieces = c.in_ok-push_images.ensures.pieces;
      right = right_more c.args.design.now c.args.other.now c.args.key c.args.hull.now c.args.window.now c.args.there.now.items c.loop-visit.there.items c.push_images.new.out.items c.in_ok-below.below.items v c.sound.ensures h c.loop-visit.invariant.right c.in_ok-below.ensures.exact adds;
      old = λ s e. stays_there c.loop-visit.there.items c.push_images.new.out.items c.in_ok-below.below.items v.motion c.args.window.now adds s (c.loop-visit.invariant.old s e);
      found = up_to (λ k. (r : Square) → has (slice_index_or c.deref-visit-items.result.now k no_visit).window r ≡ true → InFlatInput (plain c.args.design.now) c.args.other.now.cell c.args.key r
          → has c.args.window.now (moved_square (slice_index_or c.deref-visit-items.result.now k no_visit).motion r) ≡ true → covers c.push_images.new.out.items (moved_square (slice_index_or c.deref-visit-items.result.now k no_visit).motion r) ≡ true) c.loop-visit.visit-index
          (λ k lt r a b d. stays_there c.loop-visit.there.items c.push_images.new.out.items c.in_ok-below.below.items v.motion c.args.window.now adds _ (c.loop-visit.invariant.found k lt r a b d))
          (brings_flat c.args.design.now c.args.other.now c.args.key c.args.hull.now c.args.window.now c.loop-visit.there.items c.push_images.new.out.items c.in_ok-below.below.items v c.sound.ensures c.in_ok-below.ensures.exact adds);
    }

pub returns-clause-exact : goal.returns-clause-exact
returns-clause-exact c = λ s. (
  c.loop-visit.invariant.right s,
  λ h. elim h [
    | inl e ↦ c.loop-visit.invariant.old s e
    | inr b ↦ all_brought c.args.design.now c.args.other.now c.args.key c.args.hull.now c.args.window.now c.loop-visit.there.items c.deref-visit-items.result.now no_visit c.sound.ensures c.requires.hull
        (λ k lt. c.loop-visit.invariant.found k (let past = c.loop-visit-test.false in omega arith))
        (subst (λ (l : List Visit). (row column : ℕ) (q : Square) → row < c.args.other.now.rows → column < c.args.other.now.columns → IsMet c.args.other.now c.args.hull.now c.args.window.now row column q → IsFound c.args.other.now row column q l) (sym c.deref-visit-items.ensures.value) c.in_ok-place_visits.ensures.found)
        s b.0 b.1
  ],
)
