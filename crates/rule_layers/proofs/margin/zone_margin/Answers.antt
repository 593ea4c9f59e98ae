use Rattle.std.proofs.Common.{◌≡◌, ◌∙◌, ◌+◌, ℕ, List, ap, arith}
use Rattle.rule_text.specs.Reaches.{reaches}
use Rattle.rule_text.specs.Seen.{rules_seen}
use Rattle.rule_text.specs.declared.rules.LayerRule.{LayerRule}
use Rattle.rule_layers.specs.Formulas.{greatest, greatest_reach}
use Rattle.rule_layers.proofs.Reaching.{near, reach_law}
use Rattle.rule_layers.proofs.margin.zone_margin.Goals as goal

furthest : (n : ℕ) (l found : List ℕ) (seen names : List LayerRule) → n ≡ greatest l → l ≡ found → found ≡ reaches seen → seen ≡ names → n ≡ greatest_reach names
furthest n l found seen names most read told at = most ∙ ap greatest (read ∙ told ∙ ap reaches at ∙ reach_law names)

pub overflow_add-result : goal.overflow_add-result
overflow_add-result c =
    let names = c.args.rules.now.names.items in let n = c.greatest-most.result in
    let e = furthest n c.deref-2.result.now c.in_ok-found.found.items c.deref.result.now names c.greatest-most.ensures c.deref-2.ensures.value c.in_ok-found.ensures c.deref.ensures.value in
    let most = near (rules_seen c.args.rules.now) c.requires in
    omega (arith, e, most)

pub overflow_add-result-2 : goal.overflow_add-result-2
overflow_add-result-2 c =
    let names = c.args.rules.now.names.items in let n = c.greatest-most.result in
    let e = furthest n c.deref-2.result.now c.in_ok-found.found.items c.deref.result.now names c.greatest-most.ensures c.deref-2.ensures.value c.in_ok-found.ensures c.deref.ensures.value in
    let most = near (rules_seen c.args.rules.now) c.requires in
    omega (arith, e, most)

pub returns-clause-is : goal.returns-clause-is
returns-clause-is c =
    let names = c.args.rules.now.names.items in let n = c.greatest-most.result in
    ap (λ m. (m + m) + 1) (furthest n c.deref-2.result.now c.in_ok-found.found.items c.deref.result.now names c.greatest-most.ensures c.deref-2.ensures.value c.in_ok-found.ensures c.deref.ensures.value)

pub returns-clause-most : goal.returns-clause-most
returns-clause-most c =
    let names = c.args.rules.now.names.items in let n = c.greatest-most.result in
    let e = furthest n c.deref-2.result.now c.in_ok-found.found.items c.deref.result.now names c.greatest-most.ensures c.deref-2.ensures.value c.in_ok-found.ensures c.deref.ensures.value in
    let most = near (rules_seen c.args.rules.now) c.requires in
    omega (arith, e, most)
