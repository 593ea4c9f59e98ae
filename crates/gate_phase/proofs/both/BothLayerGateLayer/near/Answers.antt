use Rattle.std.proofs.Common.{◌∷◌, [], ◌≤◌, subst, sym}
use Rattle.rule_text.specs.Seen.{rules_seen}
use Rattle.gate_search.specs.Gather.{AreMet}
use Rattle.gate_phase.specs.Both.{BothOf, IsBothNear}
use Rattle.gate_phase.specs.Layer.{IsKeptNear, KeptOf, formula_of}
use Rattle.gate_phase.proofs.Calming.{both_met, kept_within, near_zone}
use Rattle.gate_phase.proofs.Locals.{both_most}
use Rattle.gate_phase.proofs.Reaching.{name_most}
use Rattle.gate_phase.proofs.both.BothLayerGateLayer.near.Goals as goal

pub calm_in_both-requires-clause-reach : goal.calm_in_both-requires-clause-reach
calm_in_both-requires-clause-reach c =
    let a = c.self.inside in let r = rules_seen a.first.rules in
    subst (λ n. n ≤ 10000) (sym c.self.invariant.reach) (both_most _ _ (name_most r a.names.0 c.self.invariant.rules) (name_most r a.names.1 c.self.invariant.rules))

pub calm_in_both-requires-clause-first : goal.calm_in_both-requires-clause-first
calm_in_both-requires-clause-first c = let a = c.self.inside in near_zone a.design.now a.first.rules a.zones.now a.cell c.sound.ensures a.names.0 c.self.invariant.rules c.self.invariant.first_zone

pub calm_in_both-requires-clause-second : goal.calm_in_both-requires-clause-second
calm_in_both-requires-clause-second c = let a = c.self.inside in near_zone a.design.now a.first.rules a.zones.now a.cell c.sound.ensures a.names.1 c.self.invariant.rules c.self.invariant.second_zone

pub calm_in_both-requires-clause-set : goal.calm_in_both-requires-clause-set
calm_in_both-requires-clause-set c =
    let a = c.self.inside in let w = c.args.window in
    let first = subst (λ (x : KeptOf). AreMet (IsKeptNear x) (w ∷ []) c.in_ok-first.first) c.self.invariant.first c.in_ok-first.ensures in
    kept_within a.design.now a.cell (formula_of a.first.rules a.names.0) c.in_ok-first.first c.sound.ensures (name_most (rules_seen a.first.rules) a.names.0 c.self.invariant.rules) (λ q e. (first.sound q e).kept)

pub returns : goal.returns
returns c =
    let a = c.self.inside in let w = c.args.window in
    let first = subst (λ (x : KeptOf). AreMet (IsKeptNear x) (w ∷ []) c.in_ok-first.first) c.self.invariant.first c.in_ok-first.ensures in
    let second = subst (λ (x : KeptOf). AreMet (IsKeptNear x) (w ∷ []) c.in_ok-second.second) c.self.invariant.second c.in_ok-second.ensures in
    subst (λ (x : BothOf). AreMet (IsBothNear x) (w ∷ []) c.in_ok-found.found) c.self.view_is
    (both_met a.design.now a.first.rules a.zones.now a.cell c.sound.ensures a.names c.self.invariant.first_zone c.self.invariant.second_zone a.reach c.self.invariant.reach c.in_ok-first.first c.in_ok-second.second c.in_ok-found.found c.in_ok-found.ensures c.self.invariant.rules w first second)
