use Rattle.std.proofs.Common.{subst, sym}
use Rattle.deep_laws.specs.Layers.{IsDerived}
use Rattle.rule_layers.specs.Formulas.{formula_by}
use Rattle.rule_text.specs.declared.rules.LayerForm.{LayerForm}
use Rattle.layer_phase.proofs.layers.plain_layer.Goals as goal

pub returns-in-Binary : goal.returns-in-Binary
returns-in-Binary c = λ trees not. absurd (not (subst (λ (f : LayerForm). IsDerived (formula_by trees f)) (sym c.in-Binary.is) tt))

pub returns-in-Sized : goal.returns-in-Sized
returns-in-Sized c = λ trees not. absurd (not (subst (λ (f : LayerForm). IsDerived (formula_by trees f)) (sym c.in-Sized.is) tt))
