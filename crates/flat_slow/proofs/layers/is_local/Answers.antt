use Rattle.std.proofs.Common.{◌↔◌, IsTrue, IfSome, ◌<◌, List, map, sym, subst, arith, nat_lt}
use Rattle.flat_layout.specs.Layers.{IsKept, IsKeptBelow, IsLocal}
use Rattle.flat_layout.specs.Layout.{Some_of}
use Rattle.flat_slow.proofs.Ways.{cell_at, own_to, own_of, no_cell_at}
use Rattle.flat_slow.specs.Slow.{plain_formula}
use Rattle.flat_slow.specs.Paths.{plain, plain_layer, IsOnLayer}
use Rattle.flat_slow.specs.declared.design.SlowShape.{SlowShape}
use Rattle.flat_slow.specs.declared.layers.Formula.{Formula}
use Rattle.flat_slow.proofs.layers.is_local.Goals as goal

pub returns-then-cell-len : goal.returns-then-cell-len
returns-then-cell-len c =
    let d = c.args.d.now in
    let key = c.in-Input.key in
    let here = cell_at d c.args.cell c.index.result.now (let a = c.if-cell-len.true in let b = c.len.ensures in let l = d.cells.ok.0 in omega arith) c.index.ensures in
    let told = subst (λ (l : List SlowShape). IsTrue c.is_own.result ↔ Some_of (IsOnLayer key c.args.q) (map plain_layer l)) c.deref.ensures.value c.is_own.ensures in
    subst (λ (f : Formula). IsTrue c.is_own.result ↔ IsLocal (plain d) c.args.cell (plain_formula f) c.args.q) (sym c.in-Input.is)
    ((λ t. own_to d c.args.cell c.index.result.now key c.args.q here (told.0 t)), (λ h. told.1 (own_of d c.args.cell c.index.result.now key c.args.q here h)))

pub returns-else-cell-len : goal.returns-else-cell-len
returns-else-cell-len c =
    let d = c.args.d.now in
    let a = c.if-cell-len.false in
    let b = c.len.ensures in
    let l = d.cells.ok.0 in
    subst (λ (f : Formula). IsTrue (nat_lt c.args.cell c.len.result) ↔ IsLocal (plain d) c.args.cell (plain_formula f) c.args.q) (sym c.in-Input.is)
    ((λ t. let lt : c.args.cell < c.len.result = grind (arith, t) in absurd (omega arith)), (λ h. absurd (no_cell_at d c.args.cell h.0 (omega arith) h.1)))

pub returns-in-Binary : goal.returns-in-Binary
returns-in-Binary c = subst (λ (f : Formula). IfSome c.is_held.result (λ b. IsTrue b ↔ IsLocal (plain c.args.d.now) c.args.cell (plain_formula f) c.args.q)) (sym c.in-Binary.is)
    (subst (λ (f : Formula). IfSome c.is_held.result (λ b. IsTrue b ↔ (IsKept (plain c.args.d.now) c.args.cell (plain_formula f) c.args.q × (IsKeptBelow (plain c.args.d.now) c.args.cell (plain_formula f) c.args.q → ⊥)))) c.in-Binary.is c.is_held.ensures)
