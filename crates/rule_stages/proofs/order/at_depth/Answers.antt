use Rattle.std.proofs.Common.{◌≡◌, ◌≤◌, ◌++◌, ◌∙◌, List, ap, append-nil, arith, drop, get_or, length, subst, sym}
use Rattle.std.specs.Prelude.{◌==◌}
use Rattle.std.specs.List.{filter}
use Rattle.std.proofs.lemmas.List.{drop_all}
use Rattle.rule_text.specs.Seen.{rules_seen}
use Rattle.rule_text.specs.declared.rules.SelectRule.{SelectRule}
use Rattle.rule_stages.specs.Depths.{depths}
use Rattle.rule_stages.specs.Stages.{at_depth, AreSelectsOf}
use Rattle.rule_stages.proofs.Turns.{selects_of}
use Rattle.rule_stages.proofs.order.at_depth.Goals as goal

pub returns-clause-of : goal.returns-clause-of
returns-clause-of c =
    let r = rules_seen c.args.rules.now in let selects = c.args.rules.now.selects.items in let found = c.loop-select.found.items in
    let past : length selects ≤ c.loop-select.select-index = (let a = c.loop-select-test.false in let v = ap length c.deref-select-items.ensures.value in omega (arith, a, v)) in
    let all : found ++ filter (λ s. get_or (depths r) s.name 0 == c.args.depth) (drop c.loop-select.select-index selects) ≡ at_depth r c.args.depth = c.loop-select.invariant in
    let is : found ≡ at_depth r c.args.depth =
    sym (append-nil found)
    ∙ ap (λ (l : List SelectRule). found ++ filter (λ s. get_or (depths r) s.name 0 == c.args.depth) l) (sym (drop_all c.loop-select.select-index selects past))
    ∙ all in
    subst (AreSelectsOf r) (sym is) (selects_of r c.args.depth)
