use Rattle.std.proofs.Common.{◌≡◌, ◌∙◌, refl, sym, subst}
use Rattle.flat_layout.specs.Layers.{reach}
use Rattle.rule_text.specs.Seen.{rules_seen}
use Rattle.rule_text.specs.Sound.{IsSound}
use Rattle.rule_text.specs.declared.rules.RuleSet.{RuleSet}
use Rattle.gate_phase.specs.Both.{IsOpenFor, region_formula}
use Rattle.gate_phase.specs.declared.device.Region.TheVariants.{Both}
use Rattle.gate_phase.proofs.Reaching.{region_in}
use Rattle.gate_phase.proofs.Gathering.{kept_is}
use Rattle.gate_phase.proofs.both.BothLayer.new.Goals as goal

pub invariant_of-result : goal.invariant_of-result
invariant_of-result c =
    let d = c.args.design.now in let e = c.new.ensures in let f = c.new-2.ensures in
    record {
      rules = subst (λ r. IsSound (rules_seen r)) (sym e.rules) c.requires.rules;
      first = kept_is c.new.result d c.new.result.rules c.args.cell c.args.names.0 e.design refl e.cell e.name;
      second = kept_is c.new-2.result d c.new.result.rules c.args.cell c.args.names.1 f.design (f.rules ∙ sym e.rules) f.cell f.name;
      first_zone = subst (λ r. IsOpenFor d r c.args.zones.now c.args.cell c.args.names.0) (sym e.rules) c.requires.first_zone;
      second_zone = subst (λ r. IsOpenFor d r c.args.zones.now c.args.cell c.args.names.1) (sym e.rules) c.requires.second_zone;
      reach = subst (λ (r : RuleSet). c.region_reach.result ≡ reach (region_formula r (Both c.args.names.0 c.args.names.1))) (sym e.rules) (c.region_reach.ensures ∙ sym (region_in (rules_seen c.args.rules.now) c.args.layers.now.reaches (Both c.args.names.0 c.args.names.1) c.requires.layers.reaches));
    }
