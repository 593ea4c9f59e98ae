use Rattle.std.proofs.Common.{◌≡◌, ℕ, List, IsSome, ap, sym, subst, get_or, length, slice_index, arith}
use Rattle.cell_graph.specs.Linked.{plain}
use Rattle.deep_tables.proofs.Finding.{some_at}
use Rattle.deep_tables.specs.Entries.{entry}
use Rattle.deep_tables.specs.Gates.{AreCellGates}
use Rattle.rule_text.specs.Seen.{rules_seen}
use Rattle.lvs_tests.proofs.gates.all_gates.Goals as goal

pub of-gate-items-requires : goal.of-gate-items-requires
of-gate-items-requires g c =
    let d = c.args.inputs.now.layout.design in
    let n = c.loop-cell.cell-index in
    let long = ap (λ (o : List ℕ). length o) c.order-cell-items.ensures in
    let same : get_or c.order-cell-items.result.now n 0 ≡ slice_index d.order n = ap (λ (o : List ℕ). slice_index o n) c.order-cell-items.ensures in
    subst (λ cell. IsSome (entry c.in_ok-found.found.gated.gates cell)) (sym same)
    (some_at (AreCellGates (plain d) (rules_seen c.args.inputs.now.rules) (slice_index d.order n)) _
    (c.in_ok-found.ensures.gates (slice_index d.order n) (c.sound.ensures.order.reached n (omega (arith, long)))))
