use Rattle.std.proofs.Common.{◌≡◌, ◌∙◌, ℕ, List, length, length-set, get_or, slice_index, ap, sym, subst, arith}
use Rattle.cell_graph.specs.Linked.{plain}
use Rattle.flat_layout.specs.Layout.{IsReached}
use Rattle.net_phase.proofs.Layering.{layer_there}
use Rattle.gate_phase.specs.Indexes.{index_lists}
use Rattle.gate_phase.proofs.Indexing.{cell_set, no_indexes}
use Rattle.gate_phase.proofs.indexes.all_indexes.Goals as goal

pub loop-cell-init : goal.loop-cell-init
loop-cell-init c = record {
  long = c.in_ok-indexes.ensures.count ∙ c.cells.ensures;
  right = no_indexes c.args.layers.now (index_lists c.in_ok-indexes.indexes.items) c.in_ok-indexes.ensures.none;
}

pub cell_indexes-requires-clause-layers : goal.cell_indexes-requires-clause-layers
cell_indexes-requires-clause-layers c = λ i lt.
    let d = c.args.design.now in
    let n = c.loop-cell.cell-index in
    let long = ap (λ (o : List ℕ). length o) c.order-cell-items.ensures in
    let same : get_or c.order-cell-items.result.now n 0 ≡ slice_index d.order n = ap (λ (o : List ℕ). slice_index o n) c.order-cell-items.ensures in
    let rules = c.requires.layers in
    let marks = rules.2 in
    layer_there (plain d) rules.0 c.args.layers.now _ i rules.1
    (subst (λ k. IsReached (plain d) k) (sym same) (c.sound.ensures.order.reached n (omega (arith, long)))) (omega (arith, lt, marks))

pub loop-cell-preserved : goal.loop-cell-preserved
loop-cell-preserved c =
    let d = c.args.design.now in
    let n = c.loop-cell.cell-index in
    let all = c.loop-cell.indexes.items in
    let long = ap (λ (o : List ℕ). length o) c.order-cell-items.ensures in
    let same : get_or c.order-cell-items.result.now n 0 ≡ slice_index d.order n = ap (λ (o : List ℕ). slice_index o n) c.order-cell-items.ensures in
    let inside = c.sound.ensures.order.inside n (omega (arith, long)) in
    let whole = c.loop-cell.invariant.long in
    record {
      long = length-set all (get_or c.order-cell-items.result.now n 0) c.in_ok-found.found ∙ whole;
      right = cell_set c.args.layers.now all (get_or c.order-cell-items.result.now n 0) c.in_ok-found.found (omega (arith, same, inside, whole)) c.loop-cell.invariant.right c.in_ok-found.ensures;
    }
