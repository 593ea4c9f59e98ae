use Rattle.std.proofs.Common.{◌∙◌, ap, length, subst, sym}
use Rattle.rule_layers.specs.Formulas.{formulas}
use Rattle.rule_text.specs.Seen.{rules_seen}
use Rattle.zone_phase.specs.Names.{AreDeviceOpens, AreInputsKept, AreNameOpens, device_names}
use Rattle.zone_phase.proofs.left.left_zones.Goals as goal

pub returns-clause-left : goal.returns-clause-left
returns-clause-left c = λ n d cell all.
    let trees = formulas c.args.names.now in let layers = c.in_ok-zones.ensures.layers in
    let opens = c.in_ok-layers.ensures.opens n d cell all in
    record {
      count = ap length layers ∙ c.in_ok-layers.ensures.count;
      names = subst (AreNameOpens n d cell trees) (sym layers) opens;
      kept = subst (AreInputsKept trees c.args.inputs.items) (sym layers) c.in_ok-layers.ensures.kept;
      devices = subst (AreDeviceOpens n d cell trees (device_names (rules_seen c.args.rules.now))) (sym c.in_ok-zones.ensures.devices)
          (c.in_ok-devices.ensures.zones n d cell trees (subst (AreNameOpens n d cell trees) (sym c.deref.ensures.value) opens));
    }
