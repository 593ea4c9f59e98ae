use Rattle.std.proofs.Common.{◌↔◌, IsTrue, IfSome, refl, sym, subst}
use Rattle.flat_layout.specs.Layers.{InFlat, IsKept, IsCalmAt, inputs, reach}
use Rattle.flat_slow.specs.Slow.{plain_formula}
use Rattle.flat_slow.specs.Paths.{plain}
use Rattle.flat_slow.specs.declared.layers.Formula.{Formula}
use Rattle.flat_slow.proofs.Calm.{stirless}
use Rattle.flat_slow.proofs.layers.is_kept.Goals as goal

pub returns-in-Input : goal.returns-in-Input
returns-in-Input c = subst (λ (f : Formula). IfSome c.in_input.result (λ b. IsTrue b ↔ IsKept (plain c.args.d.now) c.args.cell (plain_formula f) c.args.q)) (sym c.in-Input.is) c.in_input.ensures

pub returns-in-Binary : goal.returns-in-Binary
returns-in-Binary c = subst (λ (f : Formula). IfSome c.is_calm.result (λ b. IsTrue b ↔ IsKept (plain c.args.d.now) c.args.cell (plain_formula f) c.args.q)) (sym c.in-Binary.is)
    (subst (λ (f : Formula). IfSome c.is_calm.result (λ b. IsTrue b ↔ (InFlat (plain c.args.d.now) c.args.cell (plain_formula f) c.args.q × IsCalmAt (plain c.args.d.now) (inputs (plain_formula f)) (reach (plain_formula f)) c.args.cell c.args.q))) c.in-Binary.is
    (stirless (plain c.args.d.now) c.args.layer.now c.args.cell c.args.q c.is_calm.result refl c.is_calm.ensures))
