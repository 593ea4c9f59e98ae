use Rattle.std.proofs.Common.{rules, ◌≡◌, ◌<◌, length, IsSome, Some, false, get_or, set, get_or-set_other, get_or-set_same, sym, subst, ap, ◌∙◌, arith}
use mathlib.Core.Logic.{dite}
use Rattle.std.proofs.Math.Decide.{ℕ_discrete}
use mathlib.Core.Option.{some}
use lib.ListN.{get_elem?}
use Rattle.std.specs.Slots.{slots_items, slots_filled, slots_len}
use Rattle.job_board.specs.Rule.{graph_of}
use Rattle.job_board.specs.Slots.{own_slot}
use Rattle.job_board.proofs.Closing.{closed_right, closed_once, closed_length, found_some, closing_step, all_kept}
use Rattle.job_board.proofs.close.all_notes.Goals as goal

pub keep_own-requires-clause-own : goal.keep_own-requires-clause-own
keep_own-requires-clause-own g c = let p = c.args.table.shared.key in let o = c.requires.own in let v = c.loop-slot.invariant in
    λ l e. let an : c.loop-slot.next < length (graph_of p) = omega (arith, o.count) in
    let r = closed_right g.T.Defined.is_defined p _ _ _ _ c.close_with-closed.ensures.values.2 c.requires.full c.loop-slot.next an in
    let at : get_elem? (slots_items c.close_with-closed.result.slots) c.loop-slot.slot ≡ some c.take-found.result = ap (λ xs. get_elem? xs c.loop-slot.slot) (sym v.2) ∙ c.take-found.ensures.value in
    let same = found_some _ c.loop-slot.slot (own_slot (graph_of p) c.loop-slot.next) r.0 c.take-found.result r.1 at (sym e ∙ o.each c.loop-slot.next an) in
    subst (λ z. IsSome z) (sym same) (let s : IsSome (Some r.0) = search rules in s)

pub loop-slot-preserved : goal.loop-slot-preserved
loop-slot-preserved g c = let p = c.args.table.shared.key in let o = c.requires.own in let v = c.loop-slot.invariant in let t = c.take-found.ensures.others in let i = c.loop-slot.slot in let fl = slots_filled c.loop-slot.closed.slots in
    let many : slots_len c.loop-slot.closed.slots ≡ length fl = c.loop-slot.closed.slots.ok.1 in let same = v.3 in let cnt = c.slot_count-slot-end.ensures in let test = c.loop-slot-test.true in let inside : i < length fl = (first_of (omega arith, search rules)) in
    let at : get_elem? (slots_items c.close_with-closed.result.slots) i ≡ some c.take-found.result = ap (λ xs. get_elem? xs i) (sym v.2) ∙ c.take-found.ensures.value in
    let step = closing_step g.T.Defined.is_defined p c.args.own.now (slots_items c.close_with-closed.result.slots) o (closed_right g.T.Defined.is_defined p _ _ _ _ c.close_with-closed.ensures.values.2 c.requires.full)
    i c.loop-slot.next c.keep_own.new.next c.take-found.result c.loop-slot.notes.items c.keep_own.new.notes.items at c.keep_own.ensures.kept v.4 v.5 v.6 v.8 in
    let l = t.2 in (
      (λ k a b. ap (λ z. get_or z k false) t.1 ∙ get_or-set_other fl i k false false (λ e. absurd (omega arith)) ∙ v.0 k (omega arith) (omega arith)),
      (λ k a. ap (λ z. get_or z k false) t.1 ∙ dite (ℕ_discrete k i) (λ e. ap (λ z. get_or (set fl i false) z false) e ∙ get_or-set_same fl i false false inside) (λ n. get_or-set_other fl i k false false n ∙ v.1 k (omega arith))),
      t.0 ∙ v.2,
      t.2 ∙ v.3,
      step.0,
      step.1,
      step.2,
      c.keep_own.ensures.room,
      step.3,
    )

pub returns-clause-notes : goal.returns-clause-notes
returns-clause-notes g c = let v = c.loop-slot.invariant in let f = c.close_with-closed.ensures.values.2 in let len = closed_length g.T.Defined.is_defined c.args.table.shared.key _ _ _ _ f in
    all_kept g.T.Defined.is_defined c.args.table.shared.key c.args.own.now c.loop-slot.notes.items c.loop-slot.next c.loop-slot.slot c.requires.own v.4 v.5 v.6 v.8
    (let ok : slots_len c.close_with-closed.result.slots ≡ length (slots_items c.close_with-closed.result.slots) = c.close_with-closed.result.slots.ok.0 in let cnt = c.slot_count-slot-end.ensures in let test = c.loop-slot-test.false in omega arith)

pub returns-clause-once : goal.returns-clause-once
returns-clause-once g c = closed_once g.T.Defined.is_defined c.args.table.shared.key _ _ _ _ c.close_with-closed.ensures.values.2
