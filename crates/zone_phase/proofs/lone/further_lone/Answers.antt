use Rattle.std.proofs.Common.{[], get_or, subst, sym}
use Rattle.geo_base.specs.declared.layer.Op.TheVariants.{And}
use Rattle.flat_layout.specs.Layers.{Empty}
use Rattle.rule_text.specs.declared.rules.MoreRule.{MoreRule}
use Rattle.zone_phase.specs.Lone.{IsLoneIn, further_region}
use Rattle.zone_phase.proofs.Loning.{binary_lone}
use Rattle.zone_phase.proofs.Results.{if_ok}
use Rattle.zone_phase.proofs.lone.further_lone.Goals as goal

pub returns-in-Resistor : goal.returns-in-Resistor
returns-in-Resistor c =
    if_ok _ _ c.copy_at.result
    (λ s e n d cell trees all canonical. subst (λ (m : MoreRule). IsLoneIn n d cell (further_region trees m) s) (sym c.in-Resistor.is) (subst (IsLoneIn n d cell (get_or trees c.in-Resistor.r Empty)) (sym e) (all c.in-Resistor.r)))
    c.copy_at.ensures

pub returns-in-Diode : goal.returns-in-Diode
returns-in-Diode c =
    let p = c.in-Diode.p in let q = c.in-Diode.n in let sets = c.args.sets.now in
    if_ok _ _ c.two_lones.result
    (λ s made n d cell trees all canonical. subst (λ (m : MoreRule). IsLoneIn n d cell (further_region trees m) s) (sym c.in-Diode.is)
    (binary_lone n d cell And (get_or trees p Empty) (get_or trees q Empty) (get_or sets p []) (get_or sets q []) s made canonical (all p) (all q)))
    c.two_lones.ensures
