use Rattle.std.proofs.Common.{◌≡◌, inl, inr, List, false, true, length, refl, sym, ◌∙◌, ap, arith}
use Rattle.flat_layout.specs.Layout.{IsPlaced, IsReached}
use Rattle.flat_slow.specs.declared.design.SlowCell.{SlowCell}
use Rattle.flat_slow.proofs.Ways.{yes_is, no_is, loop_cell, placed_some, some_placed, placing_within, none_next, reached_from, reached_split}
use Rattle.flat_slow.specs.Paths.{plain}
use Rattle.flat_slow.proofs.paths.+is_reached.Goals.{then-has_place+else-depth-eq0+in_ok-is_reached+else-branch, else-has_place}
use Rattle.flat_slow.proofs.paths.+is_reached.Goals as goal

pub returns-then-branch : goal.returns-then-branch
returns-then-branch t c =
    let above = c.above-item.result in
    let here = loop_cell c.args.d.now c.deref-above-items.result.now c.loop-parent.parent above c.deref-above-items.ensures.value c.loop-parent-test.true c.above-item.is in
    let s = placed_some c.args.d.now c.loop-parent.parent above c.deref.result.now c.args.cell here c.deref.ensures.value (c.if-has_place.ensures.0 refl) in
    yes_is _ (reached_from (plain c.args.d.now) c.loop-parent.parent s.0 s.1 c.args.cell (c.in_ok-is_reached.ensures.0 c.if-branch.true) s.2 s.3)

pub loop-parent-preserved : goal.loop-parent-preserved
loop-parent-preserved t c =
    let above = c.above-item.result in
    let here = loop_cell c.args.d.now c.deref-above-items.result.now c.loop-parent.parent above c.deref-above-items.ensures.value c.loop-parent-test.true c.above-item.is in
    let none = none_next (λ i k p. IsReached (plain c.args.d.now) i × IsPlaced (plain c.args.d.now) i k p × (p.cell ≡ c.args.cell)) c.loop-parent.parent (λ i k p lt h. c.loop-parent.invariant i k p lt h.0 h.1 h.2) (λ k p h. elim c.if-has_place.branch [
      | then-has_place+else-depth-eq0+in_ok-is_reached+else-branch w ↦
          let f = w.if-branch.false in let e = w.in_ok-is_reached.ensures.1 h.0 in let g : false ≡ true = sym f ∙ e in let z : ⊥ = cc in z
      | else-has_place w ↦
          let e : false ≡ true = w.if-has_place.ensures.1 (some_placed c.args.d.now c.loop-parent.parent above c.deref.result.now c.args.cell k p here c.deref.ensures.value h.1 h.2) in let z : ⊥ = cc in z
    ]) in
    λ i k p lt r placed is. none i k p lt (r, placed, is)

pub returns : goal.returns
returns t c =
    no_is _ (λ h. elim (reached_split (plain c.args.d.now) c.args.cell h) [
      | inl e ↦ c.if-cell-d.false (sym e)
      | inr r ↦
          let lt = placing_within c.args.d.now r.0 r.1 r.2 r.4 in
          let e = ap (λ (l : List SlowCell). length l) c.deref-above-items.ensures.value in
          let past = c.loop-parent-test.false in
          c.loop-parent.invariant r.0 r.1 r.2 (omega arith) r.3 r.4 r.5
    ])
