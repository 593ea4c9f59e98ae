use Rattle.std.proofs.Common.{◌≡◌, ℕ, List, Some, length, slice_get, get_or, sym, ap, subst, arith, ◌∙◌}
use Rattle.std.proofs.lemmas.Option.{slice_get-get_or}
use Rattle.cell_graph.specs.Parts.{AreInside}
use Rattle.cell_graph.specs.Rising.{IsOver, IsJustOver, AreSettledTo}
use Rattle.cell_graph.proofs.Raising.{all_zero, at_end}
use Rattle.cell_graph.proofs.Calling.{settled_more, all_settled, order_inside}
use Rattle.cell_graph.proofs.heights.heights_along.Goals as goal

pub loop-cell-init : goal.loop-cell-init
loop-cell-init c =
    let fresh = c.in_ok-heights.ensures.items_if_clones_equal (λ y e. e) in
    subst (λ (hs : List ℕ). AreSettledTo c.args.parts.now c.args.order.now 0 hs) (sym fresh) (record { rising = all_zero c.args.parts.now; settled = λ i j l r. absurd l })

pub bounds-parts-i : goal.bounds-parts-i
bounds-parts-i c =
    let order = c.args.order.now in
    let n = c.loop-cell.cell-index in
    order_inside c.args.parts.now order n (get_or order n 0) c.requires.order (slice_get-get_or order n 0 c.loop-cell-test.true)

pub above-height-requires : goal.above-height-requires
above-height-requires c =
    let parts = c.args.parts.now in
    let order = c.args.order.now in
    let n = c.loop-cell.cell-index in
    let cell = get_or order n 0 in
    let part = c.index-parts-i.result in
    let inside = order_inside parts order n cell c.requires.order (slice_get-get_or order n 0 c.loop-cell-test.true) in
    let there : slice_get parts cell ≡ Some part = slice_get-get_or parts cell part inside ∙ ap Some (sym c.index-parts-i.is) in
    let count : length c.deref-in-loop-cell.result.now ≡ length parts = ap length c.deref-in-loop-cell.ensures.value ∙ c.loop-cell.invariant.rising.count in
    let inside_all : AreInside part.items (length parts) = c.requires.resolved.inside cell part there in
    let a : AreInside c.deref.result.now (length parts) = subst (λ xs. AreInside xs (length parts)) (sym c.deref.ensures.value) inside_all in
    record { inside = subst (λ n. AreInside c.deref.result.now n) (sym count) a }

pub index_mut-requires : goal.index_mut-requires
index_mut-requires c =
    let parts = c.args.parts.now in
    let order = c.args.order.now in
    let n = c.loop-cell.cell-index in
    let cell = get_or order n 0 in
    let inside = order_inside parts order n cell c.requires.order (slice_get-get_or order n 0 c.loop-cell-test.true) in
    let count = c.loop-cell.invariant.rising.count in
    let len = c.loop-cell.heights.ok.0 in
    omega arith

pub loop-cell-preserved : goal.loop-cell-preserved
loop-cell-preserved c =
    let parts = c.args.parts.now in
    let order = c.args.order.now in
    let n = c.loop-cell.cell-index in
    let cell = get_or order n 0 in
    let hs = c.loop-cell.heights.items in
    let part = c.index-parts-i.result in
    let height = c.above-height.result in
    let at = slice_get-get_or order n 0 c.loop-cell-test.true in
    let inside = order_inside parts order n cell c.requires.order at in
    let there : slice_get parts cell ≡ Some part = slice_get-get_or parts cell part inside ∙ ap Some (sym c.index-parts-i.is) in
    let ps_are = c.deref.ensures.value in
    let hs_are = c.deref-in-loop-cell.ensures.value in
    let over : IsOver part.items hs height = subst (λ xs. IsOver xs hs height) ps_are (subst (λ ys. IsOver c.deref.result.now ys height) hs_are c.above-height.ensures.over) in
    let just : IsJustOver part.items hs height = subst (λ xs. IsJustOver xs hs height) ps_are (subst (λ ys. IsJustOver c.deref.result.now ys height) hs_are c.above-height.ensures.just) in
    settled_more parts order n cell part hs height c.requires.resolved c.requires.order at there over just c.above-height.ensures.low c.loop-cell.invariant

pub returns-clause-heights : goal.returns-clause-heights
returns-clause-heights c =
    let h = c.loop-cell.invariant in
    at_end c.args.parts.now c.loop-cell.heights.items c.requires.resolved h.rising (all_settled c.args.parts.now c.args.order.now c.loop-cell.cell-index c.loop-cell.heights.items c.requires.order c.loop-cell-test.false h)
