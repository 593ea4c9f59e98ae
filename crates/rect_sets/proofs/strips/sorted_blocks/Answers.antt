use Rattle.std.proofs.Common.{rules, arith, ◌≡◌, length, w64}
use mir.Val.{SFits, to_z}
use Rattle.std.proofs.lemmas.Int.{ints, to_z-of_z}
use Rattle.std.proofs.lemmas.List.{nil_from_length}
use Rattle.rect_sets.specs.Actives.{edge_at}
use Rattle.rect_sets.proofs.Sorting.{in_sweep_order}
use Rattle.rect_sets.proofs.Blocking.{start, is_row, next_state, all_blocks}
use Rattle.rect_sets.proofs.strips.sorted_blocks.Goals as goal
use Rattle.rect_sets.proofs.strips.sorted_blocks.Goals.{then-edges-eq0, else-edges-eq0}

pub strips-init : goal.strips-init
strips-init c =
    rw (c.new-active.ensures.items, c.new-opens.ensures.items, c.new-closed.ensures.items)
    (start c.args.op c.args.edges.now (to_z w64 c.if-edges-eq0.y-bits) (λ some. elim c.if-edges-eq0.branch [
      | then-edges-eq0 w ↦ absurd (omega (arith, w.if-edges-eq0.true))
      | else-edges-eq0 w ↦ (let f : SFits w64 (edge_at c.args.edges.now 0).y1 = search rules in omega (arith, ints, w.y-is))
    ]) (in_sweep_order c.args.edges.now c.requires.edges c.read_all.ensures c.requires.sorted))

pub row_runs-requires : goal.row_runs-requires
row_runs-requires c =
    rw c.deref-in-strips.ensures.value
    (is_row c.args.op c.args.edges.now (to_z w64 c.strips.y-bits) c.strips.at c.renew.new.at c.strips.active.items c.renew.new.active.items c.strips.opens.items c.strips.closed.items c.strips.invariant c.in_ok-renew.ensures c.requires.balanced)

pub strips-preserved : goal.strips-preserved
strips-preserved c =
    let fe : SFits w64 c.strip_end-end.result = search rules in
    let e = rw c.deref.ensures.value at c.strip_end-end.ensures in
    let r = rw c.deref-in-strips.ensures.value at c.in_ok-row_runs.ensures in
    let n = rw (c.deref-in-strips-2.ensures.value, c.deref-in-strips-3.ensures.value) at c.in_ok-step.ensures.next in
    let d = rw (c.deref-in-strips-2.ensures.value, c.deref-in-strips-3.ensures.value) at c.in_ok-step.ensures.closed in
    rw (to_z-of_z w64 c.strip_end-end.result fe, c.swap.ensures.x_after)
    (next_state c.args.op c.args.edges.now (to_z w64 c.strips.y-bits) c.strip_end-end.result c.strips.at c.renew.new.at c.strips.active.items c.renew.new.active.items c.strips.opens.items c.step.new.next.items c.strips.closed.items c.step.new.closed.items c.row_runs.new.out.items c.strips.invariant c.in_ok-renew.ensures e r n d)

pub returns : goal.returns
returns c =
    let d = rw (c.deref-2.ensures.value, c.deref-3.ensures.value, c.clear.ensures.items) at c.in_ok-step-2.ensures.closed in
    let count : length c.renew.new.active.items ≡ 0 = omega (arith, c.renew.new.active.ok.0) in
    all_blocks c.args.op c.args.edges.now (to_z w64 c.strips.y-bits) c.strips.at c.renew.new.at c.strips.active.items c.renew.new.active.items c.strips.opens.items c.strips.closed.items c.step-2.new.closed.items c.strips.invariant c.in_ok-renew.ensures (omega arith) (nil_from_length c.renew.new.active.items count) d
