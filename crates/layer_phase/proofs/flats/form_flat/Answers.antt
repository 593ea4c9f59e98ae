use Rattle.std.proofs.Common.{rules, w32, subst, sym}
use mir.Val.{SFits}
use Rattle.std.proofs.lemmas.Int.{to_z-of_z}
use Rattle.rule_layers.specs.Formulas.{formula_by}
use Rattle.rule_text.specs.declared.rules.LayerForm.{LayerForm}
use Rattle.layer_phase.specs.Names.{IsFlatIn}
use Rattle.layer_phase.proofs.Results.{if_ok}
use Rattle.layer_phase.proofs.flats.form_flat.Goals as goal

pub returns-in-Binary : goal.returns-in-Binary
returns-in-Binary c =
    let d = c.args.design.now in let looks = c.args.looks.now in
    if_ok _ _ c.two_flats.result
    (λ r h trees all. subst (λ (f : LayerForm). IsFlatIn d c.args.cell looks (formula_by trees f) r) (sym c.in-Binary.is) (h d c.args.cell looks trees all))
    c.two_flats.ensures

pub returns-in-Sized : goal.returns-in-Sized
returns-in-Sized c =
    let d = c.args.design.now in let looks = c.args.looks.now in
    let f : SFits w32 c.in-Sized.by = search rules in
    let all = simp to_z-of_z at c.sized_flat.ensures in
    if_ok _ _ c.sized_flat.result
    (λ r h trees flats. subst (λ (f : LayerForm). IsFlatIn d c.args.cell looks (formula_by trees f) r) (sym c.in-Sized.is) (h d c.args.cell looks trees flats))
    all

pub sized_flat-requires-clause-size : goal.sized_flat-requires-clause-size
sized_flat-requires-clause-size c =
    let f : SFits w32 c.in-Sized.by = search rules in
    simp to_z-of_z ((c.requires.sized c.in-Sized.a c.in-Sized.by c.in-Sized.is).0)

pub sized_flat-requires-clause-within : goal.sized_flat-requires-clause-within
sized_flat-requires-clause-within c = (c.requires.sized c.in-Sized.a c.in-Sized.by c.in-Sized.is).1
