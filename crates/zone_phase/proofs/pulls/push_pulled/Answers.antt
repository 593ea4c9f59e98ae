use Rattle.std.proofs.Common.{◌≡◌, inl, inr, ◌<◌, ℕ, List, true, arith, sym, subst, slice_index_or}
use Rattle.std.specs.List.{All}
use Rattle.geo_base.specs.Rects.{has}
use Rattle.geo_base.specs.declared.shapes.Square.{Square}
use Rattle.rect_sets.specs.Rects.{covers}
use Rattle.cell_context.specs.declared.arrays.Visit.{Visit}
use Rattle.cell_context.specs.Visits.{IsElementVisit, IsMet, IsFound}
use Rattle.cell_context.proofs.Visiting.{up_to}
use Rattle.cell_context.proofs.Gathering.{no_visit}
use Rattle.zone_phase.proofs.Pulling.{right_more, still, now, all_there}
use Rattle.zone_phase.proofs.pulls.push_pulled.Goals as goal

pub loop-visit-preserved : goal.loop-visit-preserved
loop-visit-preserved c =
    let each = subst (All (IsElementVisit c.args.place.now c.args.hull.now c.args.rect.now)) (sym c.deref-visit-items.ensures.value) c.in_ok-place_visits.ensures.each in
    let h = each c.loop-visit.visit-index no_visit c.loop-visit-test.true in
    let v = slice_index_or c.deref-visit-items.result.now c.loop-visit.visit-index no_visit in
    let e = c.in_ok-push_new.ensures.covers in
    record {
      rects = c.in_ok-push_new.ensures.rects;
      right = right_more c.args.place.now c.args.hull.now c.args.rect.now c.args.out.now.items c.loop-visit.out.items c.push_new.new.out.items v e h c.loop-visit.invariant.right;
      old = λ q g. still c.loop-visit.out.items c.push_new.new.out.items v.window q e (c.loop-visit.invariant.old q g);
      found = up_to (λ k. (q : Square) → has (slice_index_or c.deref-visit-items.result.now k no_visit).window q ≡ true → covers c.push_new.new.out.items q ≡ true) c.loop-visit.visit-index
          (λ k lt q g. still c.loop-visit.out.items c.push_new.new.out.items v.window q e (c.loop-visit.invariant.found k lt q g))
          (λ q g. now c.loop-visit.out.items c.push_new.new.out.items v.window q e g);
    }

pub returns-clause-exact : goal.returns-clause-exact
returns-clause-exact c = λ q. (
  c.loop-visit.invariant.right q,
  λ h. elim h [
    | inl g ↦ c.loop-visit.invariant.old q g
    | inr t ↦ all_there c.args.place.now c.args.hull.now c.args.rect.now c.loop-visit.out.items c.deref-visit-items.result.now no_visit
        (λ k lt. c.loop-visit.invariant.found k (let past = c.loop-visit-test.false in omega arith))
        (subst (λ (l : List Visit). (row column : ℕ) (q : Square) → row < c.args.place.now.rows → column < c.args.place.now.columns → IsMet c.args.place.now c.args.hull.now c.args.rect.now row column q → IsFound c.args.place.now row column q l) (sym c.deref-visit-items.ensures.value) c.in_ok-place_visits.ensures.found) q t
  ],
)
