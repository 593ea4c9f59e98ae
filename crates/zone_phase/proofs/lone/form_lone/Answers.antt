use Rattle.std.proofs.Common.{[], get_or, rules, w32, subst, sym}
use mir.Val.{SFits}
use Rattle.std.proofs.lemmas.Int.{to_z-of_z}
use Rattle.flat_layout.specs.Layers.{Empty}
use Rattle.rule_layers.specs.Formulas.{formula_by}
use Rattle.rule_text.specs.declared.rules.LayerForm.{LayerForm}
use Rattle.rule_text.specs.declared.rules.LayerForm.TheVariants as form
use Rattle.zone_phase.specs.Lone.{IsLoneIn, IsNearZone}
use Rattle.zone_phase.proofs.Loning.{binary_lone, input_lone}
use Rattle.zone_phase.proofs.Results.{if_ok}
use Rattle.zone_phase.proofs.lone.form_lone.Goals as goal

pub sized_lone-requires-clause-size : goal.sized_lone-requires-clause-size
sized_lone-requires-clause-size c =
    let f : SFits w32 c.in-Sized.by = search rules in
    simp to_z-of_z ((c.requires.sized c.in-Sized.a c.in-Sized.by c.in-Sized.is).0)

pub sized_lone-requires-clause-within : goal.sized_lone-requires-clause-within
sized_lone-requires-clause-within c = (c.requires.sized c.in-Sized.a c.in-Sized.by c.in-Sized.is).1

pub returns-in-Input : goal.returns-in-Input
returns-in-Input c =
    if_ok _ _ c.try_clone.result
    (λ r e n d cell trees all near canonical. subst (λ (f : LayerForm). IsLoneIn n d cell (formula_by trees f) r) (sym c.in-Input.is)
    (input_lone n d cell c.in-Input.field-0 r (subst (IsNearZone n d cell (form.Input c.in-Input.field-0)) (sym e) (subst (λ (f : LayerForm). IsNearZone n d cell f c.args.zone.now) c.in-Input.is near))))
    c.try_clone.ensures

pub returns-in-Binary : goal.returns-in-Binary
returns-in-Binary c =
    let a = c.in-Binary.a in let b = c.in-Binary.b in let sets = c.args.before.now in
    if_ok _ _ c.two_lones.result
    (λ r made n d cell trees all near canonical. subst (λ (f : LayerForm). IsLoneIn n d cell (formula_by trees f) r) (sym c.in-Binary.is)
    (binary_lone n d cell c.in-Binary.op (get_or trees a Empty) (get_or trees b Empty) (get_or sets a []) (get_or sets b []) r made canonical (all a) (all b)))
    c.two_lones.ensures
