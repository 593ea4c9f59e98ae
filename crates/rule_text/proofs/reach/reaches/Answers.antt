use Rattle.std.proofs.Common.{◌≤◌, ◌+◌, ◌∙◌, ℕ, List, ap, sym, subst, drop, arith}
use Rattle.std.specs.List.{All}
use Rattle.rule_text.specs.Reaches.{MOST_REACH, reach_by}
use Rattle.rule_text.proofs.ReachLemmas.{next_reach, one_on}
use Rattle.rule_text.proofs.reach.reaches.Goals as goal

pub overflow_cast-reach : goal.overflow_cast-reach
overflow_cast-reach c =
    let names = c.args.names.now in let found = c.loop-rule.found.items in let i = c.loop-rule.rule-index in let rule = c.rule-item.result in
    let step = one_on found names i rule c.loop-rule-test.true (sym c.rule-item.is) ∙ c.loop-rule.invariant in
    let small = next_reach (λ n. n ≤ MOST_REACH) found (drop (i + 1) names) rule (subst (λ (l : List ℕ). All (λ n. n ≤ MOST_REACH) l) (sym step) c.requires) in
    let e = c.reach_by-reach.ensures ∙ ap (λ (l : List ℕ). reach_by l rule.form) c.deref.ensures.value in
    omega (arith, e, small)
