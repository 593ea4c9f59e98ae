use Rattle.std.proofs.Common.{◌≡◌, ◌↔◌, ℕ, List, arith, slice_index, get_or, subst, false, true, sym, refl, true≢false}
use Rattle.std.proofs.Math.Decide.{ℕ_discrete}
use Rattle.plain_netlist.specs.Lists.{IsListed}
use Rattle.pairing_check.proofs.Marked.{same_pins, other_pins, beq_not, beq_yes}
use Rattle.pairing_check.proofs.pins.pins_kept.Goals as goal

pub returns-then-left_marks-n : goal.returns-then-left_marks-n
returns-then-left_marks-n c =
    let n = c.loop-n.n in
    let low = c.requires.onto n (omega arith) in
    let l1 = c.mark.auto.marks in
    let l2 = c.mark-2.auto.marks in
    let s = c.requires.same in
    let p = subst (λ (xs : List ℕ). (get_or c.mark.new.marks n false ≡ true) ↔ IsListed n xs) c.deref.ensures.value (c.mark.ensures n (omega arith)) in
    let q = subst (λ (xs : List ℕ). (get_or c.mark-2.new.marks (slice_index c.args.nets.now n) false ≡ true) ↔ IsListed (slice_index c.args.nets.now n) xs) c.deref-2.ensures.value (c.mark-2.ensures (slice_index c.args.nets.now n) (omega arith)) in (
      (λ e. absurd (true≢false (sym e))),
      (λ h. absurd (other_pins _ _ (IsListed n c.args.left.now.pins.items) (IsListed (slice_index c.args.nets.now n) c.args.right.now.pins.items) p q (beq_not _ _ c.if-left_marks-n.true) (h n (omega arith)))),
    )

pub loop-n-preserved : goal.loop-n-preserved
loop-n-preserved c j m =
    let n = c.loop-n.n in
    let low = c.requires.onto n (omega arith) in
    let l1 = c.mark.auto.marks in
    let l2 = c.mark-2.auto.marks in
    let s = c.requires.same in
    let p = subst (λ (xs : List ℕ). (get_or c.mark.new.marks n false ≡ true) ↔ IsListed n xs) c.deref.ensures.value (c.mark.ensures n (omega arith)) in
    let q = subst (λ (xs : List ℕ). (get_or c.mark-2.new.marks (slice_index c.args.nets.now n) false ≡ true) ↔ IsListed (slice_index c.args.nets.now n) xs) c.deref-2.ensures.value (c.mark-2.ensures (slice_index c.args.nets.now n) (omega arith)) in
    let now = same_pins _ _ (IsListed n c.args.left.now.pins.items) (IsListed (slice_index c.args.nets.now n) c.args.right.now.pins.items) p q (beq_yes _ _ c.if-left_marks-n.false) in
    elim (ℕ_discrete j n) [
      | yes is ↦ subst (λ (x : ℕ). IsListed x c.args.left.now.pins.items ↔ IsListed (slice_index c.args.nets.now x) c.args.right.now.pins.items) (sym is) now
      | no other ↦ c.loop-n.invariant j (omega (arith, other))
    ]

pub returns : goal.returns
returns c = ((λ e n l. c.loop-n.invariant n (omega arith)), (λ h. refl))
