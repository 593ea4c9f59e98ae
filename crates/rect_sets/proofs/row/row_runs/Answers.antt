use Rattle.std.proofs.Common.{rules, arith, ◌≡◌, ◌+◌, ◌+ℤ◌, pos, ℤ, w32, subst, get_or, w64, sym}
use Rattle.std.specs.Int.{w128}
use mir.Val.{SFits, to_z, of_z}
use Rattle.std.proofs.lemmas.Int.{ints, to_z-of_z}
use Rattle.rect_sets.proofs.RowRuns.{row_none, row_more, row_all, sum_more, next_in_order}
use Rattle.rect_sets.specs.Edges.{first_of, second_of}
use Rattle.rect_sets.specs.Rows.{IsSumOf}
use Rattle.rect_sets.specs.declared.row.Edge.{Edge}
use Rattle.rect_sets.proofs.row.row_runs.Goals as goal

pub loop-edge-init : goal.loop-edge-init
loop-edge-init c =
    let f1 : SFits w64 c.args.low = search rules in
    rw c.clear.ensures.items (simp to_z-of_z (row_none c.args.op c.args.edges.now c.args.low c.requires.in_order))

pub grow-requires-clause-order : goal.grow-requires-clause-order
grow-requires-clause-order c =
    let zero : Edge = record { x = pos 0; y1 = pos 0; y2 = pos 0; first = pos 0; second = pos 0 } in
    let f1 : SFits w64 (get_or c.args.edges.now c.loop-edge.edge-index zero).x = search rules in
    simp to_z-of_z (next_in_order (to_z w64 c.loop-edge.from-bits) c.args.edges.now c.loop-edge.edge-index zero (omega arith) c.loop-edge.invariant.rest).0

pub loop-edge-preserved : goal.loop-edge-preserved
loop-edge-preserved c =
    let zero : Edge = record { x = pos 0; y1 = pos 0; y2 = pos 0; first = pos 0; second = pos 0 } in
    let edges = c.args.edges.now in
    let i = c.loop-edge.edge-index in
    let f1 : SFits w64 (get_or edges i zero).x = search rules in
    let g1 : SFits w32 (get_or edges i zero).first = search rules in
    let g2 : SFits w32 (get_or edges i zero).second = search rules in
    let r1 = c.from-first.ensures in
    let r2 = c.from-second.ensures in
    let so = c.loop-edge.invariant in
    let first = to_z w128 (of_z w128 (to_z w128 c.loop-edge.first-bits +ℤ to_z w128 (of_z w128 c.from-first.result))) in
    let second = to_z w128 (of_z w128 (to_z w128 c.loop-edge.second-bits +ℤ to_z w128 (of_z w128 c.from-second.result))) in
    let e1 : first ≡ to_z w128 c.loop-edge.first-bits +ℤ (get_or edges i zero).first = omega (arith, ints, r1) in
    let e2 : second ≡ to_z w128 c.loop-edge.second-bits +ℤ (get_or edges i zero).second = omega (arith, ints, r2) in
    let s1 : IsSumOf first_of edges (i + 1) first = subst (λ (z : ℤ). IsSumOf first_of edges (i + 1) z) (sym e1) (sum_more first_of edges i zero _ (omega arith) (omega (arith, ints)) (omega (arith, ints)) so.first_sum) in
    let s2 : IsSumOf second_of edges (i + 1) second = subst (λ (z : ℤ). IsSumOf second_of edges (i + 1) z) (sym e2) (sum_more second_of edges i zero _ (omega arith) (omega (arith, ints)) (omega (arith, ints)) so.second_sum) in
    let ex : to_z w64 (of_z w64 (get_or edges i zero).x) ≡ (get_or edges i zero).x = to_z-of_z w64 (get_or edges i zero).x f1 in
    let grown = rw (ex, c.holds-inside.ensures) at c.in_ok-grow.ensures in
    rw ex (row_more c.args.op edges i zero _ _ _ first second c.loop-edge.out.items c.grow.new.out.items (omega arith) so grown s1 s2)

pub returns : goal.returns
returns c = row_all c.args.op c.args.edges.now c.loop-edge.edge-index (to_z w64 c.loop-edge.from-bits) (to_z w128 c.loop-edge.first-bits) (to_z w128 c.loop-edge.second-bits) c.loop-edge.out.items (omega arith) c.requires.first_balanced c.requires.second_balanced c.loop-edge.invariant
