use Rattle.std.proofs.Common.{◌++◌, [], List, subst, sym, map}
use Rattle.rule_text.specs.declared.rules.MosRule.{MosRule}
use Rattle.rule_text.specs.declared.rules.MoreRule.{MoreRule}
use Rattle.rule_layers.specs.Formulas.{formulas}
use Rattle.zone_phase.specs.Lone.{AreLones, AreRegionLones, further_region, mos_region}
use Rattle.zone_phase.proofs.Loning.{no_regions}
use Rattle.zone_phase.proofs.lone.device_lones.Goals as goal

pub returns-clause-lones : goal.returns-clause-lones
returns-clause-lones c =
    let n = c.args.used.now.margin in let d = c.args.used.now.design.now in let cell = c.args.used.now.cell in
    let trees = formulas c.args.names.now in let lones = c.push_further_lones.new.lones.items in
    let first = c.in_ok-push_mos_lones.ensures.lones n d cell trees [] (subst (AreLones n d cell trees) (sym c.deref.ensures.value) c.in_ok-sets.ensures) (subst (AreRegionLones n d cell []) (sym c.new-lones.ensures.items) (no_regions n d cell)) in
    let both = c.in_ok-push_further_lones.ensures.lones n d cell trees (map (mos_region trees) c.deref-2.result.now) (subst (AreLones n d cell trees) (sym c.deref-3.ensures.value) c.in_ok-sets.ensures) first in
    subst (λ (rs : List MosRule). AreRegionLones n d cell (map (mos_region trees) rs ++ map (further_region trees) c.args.rules.now.more.items) lones) c.deref-2.ensures.value
    (subst (λ (rs : List MoreRule). AreRegionLones n d cell (map (mos_region trees) c.deref-2.result.now ++ map (further_region trees) rs) lones) c.deref-4.ensures.value both)
