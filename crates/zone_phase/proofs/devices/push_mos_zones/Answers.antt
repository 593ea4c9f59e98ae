use Rattle.std.proofs.Common.{◌+◌, ◌++◌, [], ◌∷◌, List, ℕ, sym, subst, map, take}
use Rattle.std.proofs.lemmas.List.{take_all}
use Rattle.rule_text.specs.declared.rules.MosRule.{MosRule}
use Rattle.zone_phase.specs.Names.{AreDeviceOpens, mos_names}
use Rattle.zone_phase.proofs.Naming.{taken_more, zones_more}
use Rattle.zone_phase.proofs.devices.push_mos_zones.Goals as goal

pub loop-rule-preserved : goal.loop-rule-preserved
loop-rule-preserved c =
    let e = c.in_ok-push_set.ensures.list in
    let rules = c.args.rules.now in
    let i = c.loop-rule.rule-index in
    let rule = c.rule-item.result in
    let had = c.loop-rule.invariant in
    record {
      zones = λ n d cell trees lists all old.
          subst (AreDeviceOpens n d cell trees (lists ++ map mos_names (take (i + 1) rules))) (sym e)
          (subst (λ (ls : List (List ℕ)). AreDeviceOpens n d cell trees ls (c.loop-rule.zones.items ++ c.in_ok-set.set ∷ []))
          (taken_more mos_names lists rules i rule c.loop-rule-test.true c.rule-item.is)
          (zones_more n d cell trees (lists ++ map mos_names (take i rules)) (mos_names rule) c.loop-rule.zones.items c.in_ok-set.set (had.zones n d cell trees lists all old) (c.in_ok-set.ensures n d cell trees all)));
      canonical = c.in_ok-push_set.ensures.canonical;
    }

pub returns-clause-zones : goal.returns-clause-zones
returns-clause-zones c = λ n d cell trees lists all old.
    subst (λ (rs : List MosRule). AreDeviceOpens n d cell trees (lists ++ map mos_names rs) c.loop-rule.zones.items) (take_all c.loop-rule.rule-index c.args.rules.now c.loop-rule-test.false)
    (c.loop-rule.invariant.zones n d cell trees lists all old)
