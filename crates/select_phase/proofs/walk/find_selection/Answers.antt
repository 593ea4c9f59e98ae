use Rattle.std.proofs.Common.{◌≡◌, ◌≤◌, ◌+◌, ℕ, List, Option, Some, length, length-set, get_or, slice_index, sym, ◌∙◌, ap, subst, arith}
use Rattle.std.specs.Prelude.{set}
use Rattle.cell_graph.specs.Linked.{plain}
use Rattle.rule_layers.specs.Formulas.{formulas}
use Rattle.rule_text.specs.Seen.{rules_seen}
use Rattle.select_phase.specs.Found.{AreFoundBelow, IsCellSelection}
use Rattle.rule_stages.specs.Selections.{select_of}
use Rattle.select_phase.specs.declared.cell.CellSelection.{CellSelection}
use Rattle.select_phase.proofs.Walking.{AreFoundTo, AreNoneElse, below_of, found_all, found_more, none_still, regions_parted, squares_of}
use Rattle.select_phase.proofs.walk.find_selection.Goals as goal

pub cell_selection-requires-clause-below : goal.cell_selection-requires-clause-below
cell_selection-requires-clause-below c =
    let d = c.args.design.now in let x = select_of (formulas c.args.rules.now.names.items) c.args.selection.now in
    let n = c.loop-cell.cell-index in
    let long = ap (λ (o : List ℕ). length o) c.order-cell-items.ensures in
    let same : get_or c.order-cell-items.result.now n 0 ≡ slice_index d.order n = ap (λ (o : List ℕ). slice_index o n) c.order-cell-items.ensures in
    subst (λ (l : List (Option CellSelection)). AreFoundBelow (plain d) x (get_or c.order-cell-items.result.now n 0) l) (sym c.deref.ensures.value)
    (subst (λ (k : ℕ). AreFoundBelow (plain d) x k c.loop-cell.found.items) (sym same) (below_of d x c.sound.ensures n c.loop-cell.found.items (omega (arith, long)) c.loop-cell.invariant.to))

pub loop-cell-preserved : goal.loop-cell-preserved
loop-cell-preserved c =
    let d = c.args.design.now in let x = select_of (formulas c.args.rules.now.names.items) c.args.selection.now in
    let n = c.loop-cell.cell-index in let found = c.loop-cell.found.items in let v = c.in_ok-value.value in
    let long = ap (λ (o : List ℕ). length o) c.order-cell-items.ensures in
    let same : get_or c.order-cell-items.result.now n 0 ≡ slice_index d.order n = ap (λ (o : List ℕ). slice_index o n) c.order-cell-items.ensures in
    let here = subst (λ (k : ℕ). IsCellSelection (plain d) x k v) same c.in_ok-value.ensures in
    record {
      long = length-set found (get_or c.order-cell-items.result.now n 0) (Some v) ∙ c.loop-cell.invariant.long;
      to = subst (λ (k : ℕ). AreFoundTo d x (n + 1) (set found k (Some v))) (sym same) (found_more d x c.sound.ensures n found v (omega (arith, long)) c.loop-cell.invariant.long c.loop-cell.invariant.to here);
      else_none = subst (λ (k : ℕ). AreNoneElse d (set found k (Some v))) (sym same) (none_still d c.sound.ensures n found v (omega (arith, long)) c.loop-cell.invariant.else_none);
    }

pub returns-clause-parted : goal.returns-clause-parted
returns-clause-parted c =
    let d = c.args.design.now in let r = rules_seen c.args.rules.now in let x = select_of (formulas c.args.rules.now.names.items) c.args.selection.now in
    let n = c.loop-cell.cell-index in
    let end : length d.order ≤ n = subst (λ (o : List ℕ). length o ≤ n) c.order-cell-items.ensures c.loop-cell-test.false in
    regions_parted d x c.sound.ensures (squares_of (plain d) r c.args.layers.now c.args.selection.now c.requires.layers c.requires.rules c.requires.known) c.loop-cell.found.items (found_all d x c.sound.ensures n c.loop-cell.found.items end c.loop-cell.invariant.to)
