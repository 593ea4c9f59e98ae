use Rattle.std.proofs.Common.{◌+◌, ◌++◌, [], ◌∷◌, List, sym, subst, map, take}
use Rattle.std.proofs.lemmas.List.{take_all}
use Rattle.flat_layout.specs.Layers.{Formula}
use Rattle.rule_text.specs.declared.rules.MosRule.{MosRule}
use Rattle.zone_phase.specs.Lone.{AreRegionLones, IsLoneIn, mos_region}
use Rattle.zone_phase.proofs.Naming.{taken_more}
use Rattle.zone_phase.proofs.Loning.{regions_more}
use Rattle.zone_phase.proofs.lone.push_mos_lones.Goals as goal

pub loop-rule-preserved : goal.loop-rule-preserved
loop-rule-preserved c =
    let e = c.in_ok-push_set.ensures.list in
    let rules = c.args.rules.now in
    let i = c.loop-rule.rule-index in
    let rule = c.rule-item.result in
    let had = c.loop-rule.invariant in
    record {
      lones = λ n d cell trees regions all old.
          subst (AreRegionLones n d cell (regions ++ map (mos_region trees) (take (i + 1) rules))) (sym e)
          (subst (λ (xs : List Formula). AreRegionLones n d cell xs (c.loop-rule.lones.items ++ c.in_ok-set.set ∷ []))
          (taken_more (mos_region trees) regions rules i rule c.loop-rule-test.true c.rule-item.is)
          (regions_more n d cell (regions ++ map (mos_region trees) (take i rules)) (mos_region trees rule) c.loop-rule.lones.items c.in_ok-set.set (had.lones n d cell trees regions all old) (subst (IsLoneIn n d cell (mos_region trees rule)) (sym c.in_ok-set.ensures) (all rule.g))));
      canonical = c.in_ok-push_set.ensures.canonical;
    }

pub returns-clause-lones : goal.returns-clause-lones
returns-clause-lones c = λ n d cell trees regions all old.
    subst (λ (rs : List MosRule). AreRegionLones n d cell (regions ++ map (mos_region trees) rs) c.loop-rule.lones.items) (take_all c.loop-rule.rule-index c.args.rules.now c.loop-rule-test.false)
    (c.loop-rule.invariant.lones n d cell trees regions all old)
