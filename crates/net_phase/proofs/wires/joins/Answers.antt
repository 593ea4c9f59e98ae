use Rattle.std.proofs.Common.{◌≡◌, ◌↔◌, ℕ, List, map, subst}
use Rattle.std.specs.List.{Contains, flat_map}
use Rattle.rule_text.specs.Seen.{rules_seen}
use Rattle.net_phase.proofs.Results.{if_ok}
use Rattle.net_phase.proofs.Wiring.{once_joins}
use Rattle.net_phase.proofs.wires.joins.Goals as goal
use Rattle.net_phase.specs.Wires.{join_line, joined_by}

pub returns : goal.returns
returns c =
    let r = rules_seen c.args.rules.now in
    let once = c.in_ok-lines.lines.items in
    let same : (x : ℕ × ℕ) → Contains once x ↔ Contains r.connects x = λ x. subst (λ (l : List (ℕ × ℕ)). Contains once x ↔ Contains l x) c.deref.ensures.value (c.in_ok-lines.ensures x) in
    if_ok _ _ c.joins_by.result (λ v are.
    once_joins r v.items once (subst (λ (l : List (ℕ × ℕ)). map join_line v.items ≡ flat_map (joined_by r) l) c.deref-2.ensures.value are) same) c.joins_by.ensures
