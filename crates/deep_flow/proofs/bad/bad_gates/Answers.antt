use Rattle.std.proofs.Common.{◌∙◌, ℕ, List, get_or, length, ap, arith}
use Rattle.cell_graph.specs.Linked.{plain}
use Rattle.deep_tables.proofs.Finding.{some_at}
use Rattle.deep_tables.specs.Entries.{entry}
use Rattle.deep_tables.specs.Gates.{AreCellGates}
use Rattle.rule_text.specs.Seen.{rules_seen}
use Rattle.deep_flow.proofs.Badly.{have_rules, reached_in, told_all, told_more}
use Rattle.deep_flow.proofs.bad.bad_gates.Goals as goal

pub of-requires : goal.of-requires
of-requires c =
    let d = c.args.design.now in
    let cell = get_or c.order-cell-items.result.now c.loop-cell.cell-index 0 in
    let reached = reached_in d c.order-cell-items.result.now c.loop-cell.cell-index c.sound.ensures c.order-cell-items.ensures (omega arith) in
    some_at (AreCellGates (plain d) (rules_seen c.args.rules.now) cell) (entry c.args.gates.now cell) (c.requires.gates cell reached)

pub push_cell-requires : goal.push_cell-requires
push_cell-requires c =
    let d = c.args.design.now in
    let cell = get_or c.order-cell-items.result.now c.loop-cell.cell-index 0 in
    let reached = reached_in d c.order-cell-items.result.now c.loop-cell.cell-index c.sound.ensures c.order-cell-items.ensures (omega arith) in
    have_rules (plain d) (rules_seen c.args.rules.now) c.requires.nets.0 c.args.gates.now cell c.of.result.now c.requires.nets.1 c.requires.gates reached c.of.ensures

pub loop-cell-preserved : goal.loop-cell-preserved
loop-cell-preserved c =
    let n = c.loop-cell.cell-index in
    let long = ap (λ (l : List ℕ). length l) c.order-cell-items.ensures in
    let at = ap (λ (l : List ℕ). get_or l n 0) c.order-cell-items.ensures in
    told_more (rules_seen c.args.rules.now) c.args.gates.now c.args.design.now.order n (get_or c.order-cell-items.result.now n 0) c.of.result.now c.loop-cell.bad.items c.push_cell.new.bad.items
    (omega (arith, long)) at c.of.ensures c.loop-cell.invariant c.in_ok-push_cell.ensures

pub returns : goal.returns
returns c =
    let long = ap (λ (l : List ℕ). length l) c.order-cell-items.ensures in
    c.loop-cell.invariant
    ∙ told_all (rules_seen c.args.rules.now) c.args.gates.now c.args.design.now.order c.loop-cell.cell-index (omega (arith, long))
