use Rattle.std.proofs.Common.{◌≡◌, inl, inr, List, [], ◌∷◌, false, true, get_or, length, sym, ◌∙◌, ap, subst, arith}
use Rattle.flat_layout.specs.Layout.{Place, IsDisturbed}
use Rattle.flat_layout.specs.Zones.{IsBeside}
use Rattle.flat_slow.specs.declared.design.SlowCell.{SlowCell}
use Rattle.flat_slow.specs.declared.design.SlowPlace.{SlowPlace}
use Rattle.flat_slow.proofs.Ways.{yes_is, no_is, no_place, loop_cell, item_at, placed_at, within, placing_within, none_next, none_place_next, disturbed_by, disturbed_split}
use Rattle.flat_slow.specs.Paths.{plain, plain_place, IsDisturbedBy}
use Rattle.flat_laws.proofs.Paths.{same_place}
use Rattle.geo_base.specs.Motions.{moved_square}
use Rattle.flat_slow.proofs.paths.+is_disturbed.Goals.{then-place-cell+else-depth-eq0+in_ok-is_reached+then-branch+in_ok-r+in_ok-is_over+else-branch-2+in_ok-is_disturbed+else-branch-3, then-place-cell+else-depth-eq0+in_ok-is_reached+else-branch, else-place-cell}
use Rattle.flat_slow.proofs.paths.+is_disturbed.Goals as goal

pub returns-then-branch-2 : goal.returns-then-branch-2
returns-then-branch-2 t c =
    let above = c.above-item.result in
    let here = loop_cell c.args.d.now c.deref-above-items.result.now c.loop-parent.parent above c.deref-above-items.ensures.value c.loop-parent-test.true c.above-item.is in
    let there = item_at c.deref-place-items.result.now above.places.items c.loop-k.k no_place c.deref-place-items.ensures.value c.loop-k-test.true in
    let place = plain_place (get_or c.deref-place-items.result.now c.loop-k.k no_place) in
    let placed = placed_at c.args.d.now c.loop-parent.parent above c.loop-k.k _ here there in
    let beside = subst (λ r. IsBeside (plain c.args.d.now) (c.args.key ∷ []) c.loop-parent.parent c.loop-k.k r) c.in_ok-r.ensures (c.in_ok-is_over.ensures.0 c.if-branch-2.true) in
    yes_is _ (disturbed_by (plain c.args.d.now) c.args.cell c.args.key c.args.q c.loop-parent.parent c.loop-k.k place (c.in_ok-is_reached.ensures.0 c.if-branch.true, placed, c.if-place-cell.true, inr beside))

pub returns-then-branch-3 : goal.returns-then-branch-3
returns-then-branch-3 t c =
    let above = c.above-item.result in
    let here = loop_cell c.args.d.now c.deref-above-items.result.now c.loop-parent.parent above c.deref-above-items.ensures.value c.loop-parent-test.true c.above-item.is in
    let there = item_at c.deref-place-items.result.now above.places.items c.loop-k.k no_place c.deref-place-items.ensures.value c.loop-k-test.true in
    let place = plain_place (get_or c.deref-place-items.result.now c.loop-k.k no_place) in
    let placed = placed_at c.args.d.now c.loop-parent.parent above c.loop-k.k _ here there in
    let higher = subst (λ r. IsDisturbed (plain c.args.d.now) (c.args.key ∷ []) c.loop-parent.parent r) c.in_ok-r.ensures (c.in_ok-is_disturbed.ensures.0 c.if-branch-3.true) in
    yes_is _ (disturbed_by (plain c.args.d.now) c.args.cell c.args.key c.args.q c.loop-parent.parent c.loop-k.k place (c.in_ok-is_reached.ensures.0 c.if-branch.true, placed, c.if-place-cell.true, inl higher))

pub loop-k-preserved : goal.loop-k-preserved
loop-k-preserved t c =
    let above = c.above-item.result in
    let here = loop_cell c.args.d.now c.deref-above-items.result.now c.loop-parent.parent above c.deref-above-items.ensures.value c.loop-parent-test.true c.above-item.is in
    let there = item_at c.deref-place-items.result.now above.places.items c.loop-k.k no_place c.deref-place-items.ensures.value c.loop-k-test.true in
    let place = plain_place (get_or c.deref-place-items.result.now c.loop-k.k no_place) in
    let placed = placed_at c.args.d.now c.loop-parent.parent above c.loop-k.k _ here there in
    none_place_next (λ k p. IsDisturbedBy (plain c.args.d.now) c.args.cell c.args.key c.args.q c.loop-parent.parent k p) c.loop-k.k c.loop-k.invariant (λ p h.
    let same : p ≡ place = same_place (plain c.args.d.now) c.loop-parent.parent c.loop-k.k p place h.1 placed in
    elim c.if-place-cell.branch [
      | then-place-cell+else-depth-eq0+in_ok-is_reached+then-branch+in_ok-r+in_ok-is_over+else-branch-2+in_ok-is_disturbed+else-branch-3 w ↦
          let at : moved_square p.motion c.args.q ≡ w.in_ok-r.r = ap (λ (x : Place). moved_square x.motion c.args.q) same ∙ sym w.in_ok-r.ensures in
          elim h.3 [
            | inl d ↦
                let e = w.in_ok-is_disturbed.ensures.1 (subst (λ r. IsDisturbed (plain c.args.d.now) (c.args.key ∷ []) c.loop-parent.parent r) at d) in
                let f = w.if-branch-3.false in let g : false ≡ true = sym f ∙ e in let z : ⊥ = cc in z
            | inr b ↦
                let e = w.in_ok-is_over.ensures.1 (subst (λ r. IsBeside (plain c.args.d.now) (c.args.key ∷ []) c.loop-parent.parent c.loop-k.k r) at b) in
                let f = w.if-branch-2.false in let g : false ≡ true = sym f ∙ e in let z : ⊥ = cc in z
          ]
      | then-place-cell+else-depth-eq0+in_ok-is_reached+else-branch w ↦
          let e = w.in_ok-is_reached.ensures.1 h.0 in let f = w.if-branch.false in let g : false ≡ true = sym f ∙ e in let z : ⊥ = cc in z
      | else-place-cell w ↦ w.if-place-cell.false (ap (λ (x : Place). x.cell) (sym same) ∙ h.2)
    ])

pub loop-parent-preserved : goal.loop-parent-preserved
loop-parent-preserved t c =
    let above = c.above-item.result in
    let here = loop_cell c.args.d.now c.deref-above-items.result.now c.loop-parent.parent above c.deref-above-items.ensures.value c.loop-parent-test.true c.above-item.is in
    none_next (λ i k p. IsDisturbedBy (plain c.args.d.now) c.args.cell c.args.key c.args.q i k p) c.loop-parent.parent c.loop-parent.invariant (λ k p h.
    let lt = within c.args.d.now c.loop-parent.parent above k p here h.1 in
    let e = ap (λ (l : List SlowPlace). length l) c.deref-place-items.ensures.value in
    let past = c.loop-k-test.false in
    c.loop-k.invariant k p (omega arith) h)

pub returns : goal.returns
returns t c =
    no_is _ (λ h.
    let s = disturbed_split (plain c.args.d.now) c.args.cell c.args.key c.args.q h in
    let lt = placing_within c.args.d.now s.0 s.1 s.2 s.3.1 in
    let e = ap (λ (l : List SlowCell). length l) c.deref-above-items.ensures.value in
    let past = c.loop-parent-test.false in
    c.loop-parent.invariant s.0 s.1 s.2 (omega arith) s.3)
