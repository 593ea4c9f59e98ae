use Rattle.std.proofs.Common.{◌≡◌, ◌∙◌, true, false, List, None, refl, sym, subst, arith, slice_index_or}
use Rattle.std.specs.List.{All}
use Rattle.cell_context.specs.declared.arrays.Visit.{Visit}
use Rattle.cell_context.specs.Over.{AreVisited, IsVisit}
use Rattle.cell_context.proofs.Gathering.{no_visit, visit_lower, visit_motion}
use Rattle.cell_context.proofs.Visiting.{up_to}
use Rattle.gate_phase.specs.Below.{IsFreeIn}
use Rattle.gate_phase.proofs.Freeing.{free_visit, no_visit_free, visit_open}
use Rattle.gate_phase.proofs.Ready.{open_there}
use Rattle.gate_phase.proofs.below.is_below.Goals as goal

pub is_free_visit-requires-clause-cell : goal.is_free_visit-requires-clause-cell
is_free_visit-requires-clause-cell c =
    let d = c.args.at.now.site.design.now in let cell = c.args.at.now.site.cell in let w = c.args.start.now in
    let each = subst (All (IsVisit c.args.at.now.reach d cell None w)) (sym c.deref-visit-items.ensures.value) c.in_ok-list.ensures.each in
    (visit_lower c.args.at.now.reach d cell None w _ c.sound.ensures (each c.loop-visit.visit-index no_visit c.loop-visit-test.true)).0

pub is_free_visit-requires-clause-motion : goal.is_free_visit-requires-clause-motion
is_free_visit-requires-clause-motion c =
    let d = c.args.at.now.site.design.now in let cell = c.args.at.now.site.cell in let w = c.args.start.now in
    let each = subst (All (IsVisit c.args.at.now.reach d cell None w)) (sym c.deref-visit-items.ensures.value) c.in_ok-list.ensures.each in
    visit_motion c.args.at.now.reach d cell None w _ c.sound.ensures (each c.loop-visit.visit-index no_visit c.loop-visit-test.true)

pub is_free_visit-requires-clause-zone : goal.is_free_visit-requires-clause-zone
is_free_visit-requires-clause-zone c =
    let d = c.args.at.now.site.design.now in let cell = c.args.at.now.site.cell in let w = c.args.start.now in
    let each = subst (All (IsVisit c.args.at.now.reach d cell None w)) (sym c.deref-visit-items.ensures.value) c.in_ok-list.ensures.each in
    visit_open c.args.at.now.reach d c.args.at.now.site.zones.now cell c.args.at.now.number w _ (open_there c.args.at.now c.sound.ensures c.requires.ready) (each c.loop-visit.visit-index no_visit c.loop-visit-test.true)

pub returns-then-branch : goal.returns-then-branch
returns-then-branch c =
    let d = c.args.at.now.site.design.now in let cell = c.args.at.now.site.cell in let w = c.args.start.now in
    let each = subst (All (IsVisit c.args.at.now.reach d cell None w)) (sym c.deref-visit-items.ensures.value) c.in_ok-list.ensures.each in
    let v = each c.loop-visit.visit-index no_visit c.loop-visit-test.true in
    ((λ e. free_visit c.args.at.now.reach d c.args.at.now.site.zones.now cell c.args.at.now.number c.args.part.now c.args.close.now w _ v (c.in_ok-is_free_visit.ensures.0 c.if-branch.true)), (λ f. refl))

pub loop-visit-preserved : goal.loop-visit-preserved
loop-visit-preserved c =
    up_to (λ k. IsFreeIn c.args.at.now.reach c.args.at.now.site.design.now c.args.at.now.site.zones.now c.args.at.now.number c.args.part.now c.args.close.now (slice_index_or c.deref-visit-items.result.now k no_visit).cell (slice_index_or c.deref-visit-items.result.now k no_visit).motion → ⊥) c.loop-visit.visit-index
    c.loop-visit.invariant (λ free. let e : false ≡ true = sym c.if-branch.false ∙ c.in_ok-is_free_visit.ensures.1 free in let z : ⊥ = cc in z)

pub returns : goal.returns
returns c =
    let d = c.args.at.now.site.design.now in let cell = c.args.at.now.site.cell in let w = c.args.start.now in (
      (λ e. absurd (let f : false ≡ true = e in let z : ⊥ = cc in z)),
      (λ f.
          absurd (no_visit_free c.args.at.now.reach d c.args.at.now.site.zones.now cell c.args.at.now.number c.args.part.now c.args.close.now w c.deref-visit-items.result.now no_visit (subst (λ (l : List Visit). AreVisited c.args.at.now.reach d cell None w l) (sym c.deref-visit-items.ensures.value) c.in_ok-list.ensures.found)
          (λ k lt. c.loop-visit.invariant k (let past = c.loop-visit-test.false in omega arith)) f)),
    )
