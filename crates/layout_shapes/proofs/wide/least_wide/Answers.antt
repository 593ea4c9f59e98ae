-- One cell more.
use Rattle.std.proofs.Common.{ℕ, List, [], ◌∷◌, ◌++◌, Some, take, get_or, sym, ap, subst, ◌∙◌}
use Rattle.std.proofs.lemmas.Bool.Decides.{not_from_Decides}
use Rattle.std.proofs.lemmas.List.{take_more, take_all}
use Rattle.cell_graph.specs.Linked.{plain}
use Rattle.rule_text.specs.Seen.{rules_seen}
use Rattle.layout_shapes.specs.Wide.{IsLeast, IsWideCell}
use Rattle.layout_shapes.proofs.Least.{more, not_more}
use Rattle.layout_shapes.proofs.wide.least_wide.Goals.{then-is_wide, else-is_wide}
use Rattle.layout_shapes.proofs.wide.least_wide.Goals as goal

pub loop-cell-preserved : goal.loop-cell-preserved
loop-cell-preserved c =
    let P = IsWideCell (plain c.args.design.now) (rules_seen c.args.rules.now) c.args.layers.now in
    let xs = c.args.cells.now in let i = c.loop-cell.cell-index in let x = get_or xs i 0 in
    let all = take i xs ++ x ∷ [] in
    subst (λ (ks : List ℕ). IsLeast P ks c.if-is_wide.least) (sym (take_more xs i 0 c.loop-cell-test.true)) (elim c.if-is_wide.branch [
      | then-is_wide w ↦ subst (IsLeast P all) (sym (w.least-is ∙ ap Some w.lesser.ensures)) (more P (take i xs) x c.loop-cell.least (c.is_wide.ensures.0 w.if-is_wide.true) c.loop-cell.invariant)
      | else-is_wide w ↦ subst (IsLeast P all) (sym w.least-is) (not_more P (take i xs) x c.loop-cell.least (not_from_Decides c.is_wide.result c.is_wide.ensures w.if-is_wide.false) c.loop-cell.invariant)
    ])

pub returns : goal.returns
returns c =
    let P = IsWideCell (plain c.args.design.now) (rules_seen c.args.rules.now) c.args.layers.now in
    subst (λ (ks : List ℕ). IsLeast P ks c.loop-cell.least) (take_all c.loop-cell.cell-index c.args.cells.now c.loop-cell-test.false) c.loop-cell.invariant
