use Rattle.std.proofs.Common.{◌≡◌, ◌≤◌, ◌∙◌, ℕ, Bool, List, true, false, ap, get_or, subst, sym, arith}
use Rattle.std.specs.List.{All}
use Rattle.rule_text.specs.Reaches.{reaches}
use Rattle.rule_text.specs.Seen.{rules_seen}
use Rattle.rule_text.specs.declared.rules.LayerRule.{LayerRule}
use Rattle.net_phase.proofs.Reaching.{bounds_reach}
use Rattle.net_phase.proofs.indexes.net_reach.Goals as goal

pub returns : goal.returns
returns c =
    let r = rules_seen c.args.rules.now in
    let n = c.greatest-most.result in
    let known = c.in_ok-known.known.items in
    let found : c.deref-2.result.now ≡ reaches r.names = c.deref-2.ensures.value ∙ c.in_ok-found.ensures ∙ ap (λ (l : List LayerRule). reaches l) c.deref.ensures.value in
    let all : (k : ℕ) → get_or known k false ≡ true → get_or (reaches r.names) k 0 ≤ n =
    λ k h. subst (λ (l : List ℕ). get_or l k 0 ≤ n) found (c.greatest-most.ensures.all k (ap (λ (l : List Bool). get_or l k false) c.deref-3.ensures.value ∙ h)) in
    let most = c.greatest-most.ensures.most 10000 (subst (All (λ m. m ≤ 10000)) (sym found) c.requires.formed.near) in
    bounds_reach r known n c.in_ok-known.ensures.all c.in_ok-known.ensures.each all (omega (arith, most))
