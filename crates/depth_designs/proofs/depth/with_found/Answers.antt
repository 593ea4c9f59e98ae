use Rattle.std.proofs.Common.{◌≡◌, ◌∙◌, List, [], true, false, length, subst, sym}
use Rattle.std.specs.Prelude.{◌==◌}
use Rattle.rule_text.specs.Seen.{rules_seen}
use Rattle.rule_text.specs.declared.rules.SelectRule.{SelectRule}
use Rattle.depth_designs.proofs.Layering.{depth_staged}
use Rattle.depth_designs.proofs.depth.with_found.Goals as goal

pub returns-clause-staged : goal.returns-clause-staged
returns-clause-staged c =
    depth_staged c.stagings.ensures.depth c.stages.ensures.free c.args.design c.in_ok-staged.staged (rules_seen c.args.rules.now) c.args.depth c.args.selected.now c.deref.result.now c.in_ok-further.further.items c.requires.rules
    c.requires.selected
    (λ e.
    let t : c.is_empty.result ≡ (length {A = SelectRule} [] == 0) = subst (λ (l : List SelectRule). c.is_empty.result ≡ (length l == 0)) e c.is_empty.ensures in
    let z : true ≡ false = sym t ∙ c.if-is_empty.false in
    let w : ⊥ = cc in w)
    (c.deref.ensures.value ∙ c.in_ok-keys.ensures) c.in_ok-further.ensures.further c.in_ok-further.ensures.found c.in_ok-further.ensures.fresh c.in_ok-staged.ensures.design c.sound-2.ensures
