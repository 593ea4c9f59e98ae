use Rattle.std.proofs.Common.{◌↔◌, IsTrue, IfSome, ◌≡◌, inl, inr, false, true, sym, ◌∙◌, subst}
use Rattle.std.proofs.lemmas.Option.{IfSome_then}
use Rattle.flat_layout.specs.Layers.{inputs}
use Rattle.flat_layout.specs.Layout.{IsDisturbed}
use Rattle.flat_slow.proofs.Ways.{yes_is, disturbed_either}
use Rattle.flat_slow.specs.Slow.{plain_formula}
use Rattle.flat_slow.specs.Paths.{plain}
use Rattle.flat_slow.specs.declared.layers.Formula.{Formula}
use Rattle.flat_slow.proofs.layers.+is_disturbed_for.Goals as goal

pub returns-then-branch : goal.returns-then-branch
returns-then-branch t c =
    let d = plain c.args.d.now in
    let one = subst (λ (f : Formula). IsDisturbed d (inputs (plain_formula f)) c.args.cell c.args.q) c.deref.ensures (c.in_ok-is_disturbed_for-in-Binary.ensures.0 c.if-branch.true) in
    subst (λ (f : Formula). IsTrue true ↔ IsDisturbed d (inputs (plain_formula f)) c.args.cell c.args.q) (sym c.in-Binary.is)
    (yes_is _ ((disturbed_either d (inputs (plain_formula c.in-Binary.a.value)) (inputs (plain_formula c.in-Binary.b.value)) c.args.cell c.args.q).1 (inl one)))

pub returns-else-branch : goal.returns-else-branch
returns-else-branch t c =
    let d = plain c.args.d.now in
    let either = disturbed_either d (inputs (plain_formula c.in-Binary.a.value)) (inputs (plain_formula c.in-Binary.b.value)) c.args.cell c.args.q in
    let not : IsDisturbed d (inputs (plain_formula c.in-Binary.a.value)) c.args.cell c.args.q → ⊥ = λ h. let e = c.in_ok-is_disturbed_for-in-Binary.ensures.1 (subst (λ (f : Formula). IsDisturbed d (inputs (plain_formula f)) c.args.cell c.args.q) (sym c.deref.ensures) h) in let f = c.if-branch.false in let g : false ≡ true = sym f ∙ e in let z : ⊥ = cc in z in
    subst (λ (f : Formula). IfSome c.is_disturbed_for-in-Binary.result (λ b. IsTrue b ↔ IsDisturbed d (inputs (plain_formula f)) c.args.cell c.args.q)) (sym c.in-Binary.is)
    (IfSome_then c.is_disturbed_for-in-Binary.result
    (subst (λ (f : Formula). IfSome c.is_disturbed_for-in-Binary.result (λ b. IsTrue b ↔ IsDisturbed d (inputs (plain_formula f)) c.args.cell c.args.q)) c.deref-in-Binary.ensures c.is_disturbed_for-in-Binary.ensures) (λ b h.
    ((λ t. either.1 (inr (h.0 t))), (λ g. elim (either.0 g) [ inl a ↦ absurd (not a) | inr x ↦ h.1 x ]))))
