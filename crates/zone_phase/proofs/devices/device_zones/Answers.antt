use Rattle.std.proofs.Common.{◌++◌, [], List, subst, sym, map}
use Rattle.rule_text.specs.declared.rules.MosRule.{MosRule}
use Rattle.rule_text.specs.declared.rules.MoreRule.{MoreRule}
use Rattle.zone_phase.specs.Names.{AreDeviceOpens, further_names, mos_names}
use Rattle.zone_phase.proofs.Naming.{no_zones}
use Rattle.zone_phase.proofs.devices.device_zones.Goals as goal

pub returns-clause-zones : goal.returns-clause-zones
returns-clause-zones c = λ n d cell trees all.
    let zones = c.push_further_zones.new.zones.items in
    let first = c.in_ok-push_mos_zones.ensures.zones n d cell trees [] all (subst (AreDeviceOpens n d cell trees []) (sym c.new-zones.ensures.items) (no_zones n d cell trees)) in
    let both = c.in_ok-push_further_zones.ensures.zones n d cell trees (map mos_names c.deref.result.now) all first in
    subst (λ (rs : List MosRule). AreDeviceOpens n d cell trees (map mos_names rs ++ map further_names c.args.rules.now.more.items) zones) c.deref.ensures.value
    (subst (λ (rs : List MoreRule). AreDeviceOpens n d cell trees (map mos_names c.deref.result.now ++ map further_names rs) zones) c.deref-2.ensures.value both)
