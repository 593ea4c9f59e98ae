use Rattle.std.proofs.Common.{◌≡◌, ◌∙◌, ◌+◌, ◌++◌, ◌∷◌, [], ℕ, List, ap, sym, subst, length, length-append}
use Rattle.geo_base.specs.declared.shapes.Rect.{Rect}
use Rattle.rule_layers.specs.Formulas.{formula_by}
use Rattle.layer_phase.specs.Groups.{ArePlain}
use Rattle.layer_phase.proofs.Flattening.{one_on}
use Rattle.layer_phase.proofs.Grouping.{plain_more}
use Rattle.layer_phase.proofs.layers.plain_layers.Goals as goal

pub loop-rule-preserved : goal.loop-rule-preserved
loop-rule-preserved c =
    let had = c.loop-rule.invariant in let names = c.args.names.now in let rule = c.rule-item.result in let name = c.loop-rule.rule-index in
    let d = c.args.design.now in let tree = formula_by had.0 rule.form in let sets = c.loop-rule.layers.items in let set = c.in_ok-layer.layer in
    let e : c.push.new.self.items ≡ sets ++ set ∷ [] = c.in_ok-push.ensures.items in (
      had.0 ++ tree ∷ [],
      one_on had.0 names name rule c.loop-rule-test.true (sym c.rule-item.is) ∙ had.1,
      length-append had.0 (tree ∷ []) ∙ ap (λ (n : ℕ). n + 1) had.2,
      ap length e ∙ length-append sets (set ∷ []) ∙ ap (λ (n : ℕ). n + 1) had.3,
      subst (λ (l : List (List Rect)). ArePlain d c.args.cell (had.0 ++ tree ∷ []) l) (sym e)
          (plain_more d c.args.cell had.0 tree sets set (had.3 ∙ sym had.2) had.4 (c.in_ok-layer.ensures had.0)),
    )
