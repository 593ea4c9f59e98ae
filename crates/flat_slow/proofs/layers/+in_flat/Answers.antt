use Rattle.std.proofs.Common.{◌↔◌, IsTrue, IfSome, sym, subst}
use Rattle.flat_layout.specs.Layers.{InFlat}
use Rattle.flat_slow.specs.Slow.{plain_formula}
use Rattle.flat_slow.specs.Paths.{plain}
use Rattle.flat_slow.specs.declared.layers.Formula.{Formula}
use Rattle.flat_slow.proofs.layers.+in_flat.Goals as goal

pub returns-in-Input : goal.returns-in-Input
returns-in-Input t c = subst (λ (f : Formula). IfSome c.in_input.result (λ b. IsTrue b ↔ InFlat (plain c.args.d.now) c.args.cell (plain_formula f) c.args.q)) (sym c.in-Input.is) c.in_input.ensures
