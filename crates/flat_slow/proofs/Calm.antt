-- What isn't disturbed at a square isn't within the reach of a name that is nowhere sized.
use Rattle.std.proofs.Common.{◌≡◌, ◌↔◌, ◌∙◌, ℕ, max, ap, refl, sym, subst, Bool, IsTrue, IfSome, Option, Some, None}
use Rattle.flat_layout.specs.Layers.{inputs, reach, InFlat, IsCalmAt, IsStirred}
use Rattle.flat_layout.specs.Layout.{Design, IsDisturbed}
use Rattle.flat_layout.specs.declared.way.Way.TheVariants.{Disturbed}
use Rattle.flat_laws.proofs.Names.{still}
use Rattle.flat_laws.proofs.Leaving.{calm_unstirred, unstirred}
use Rattle.flat_slow.specs.Slow.{plain_formula}
use Rattle.flat_slow.specs.declared.layers.Formula.{Formula, Input, Empty, Binary'}
use Rattle.geo_base.specs.declared.shapes.Square.{Square}

reach_none : (tree : Formula) → reach (plain_formula tree) ≡ 0
reach_none (Input key) = refl
reach_none Empty = refl
reach_none (Binary' op p a q b) = ap (λ n. max n (reach (plain_formula b))) (reach_none a) ∙ ap (λ n. max 0 n) (reach_none b)

pub stirless : (d : Design) (tree : Formula) (cell : ℕ) (q : Square) (told : Option Bool) → d.way ≡ Disturbed → IfSome told (λ b. IsTrue b ↔ (InFlat d cell (plain_formula tree) q × (IsDisturbed d (inputs (plain_formula tree)) cell q → ⊥)))
    → IfSome told (λ b. IsTrue b ↔ (InFlat d cell (plain_formula tree) q × IsCalmAt d (inputs (plain_formula tree)) (reach (plain_formula tree)) cell q))
stirless d tree cell q None undisturbed h = h
stirless d tree cell q (Some b) undisturbed h =
    let keys = inputs (plain_formula tree) in
    let same = subst (λ (n : ℕ). IsStirred d keys n cell q ↔ IsDisturbed d keys cell q) (sym (reach_none tree)) (still d keys cell q) in
    let n = reach (plain_formula tree) in (
      (λ t. let r = h.0 t in (r.0, calm_unstirred d keys n cell q (λ s. r.1 (same.0 s)))),
      (λ (flat, calm). h.1 (flat, λ s. unstirred d undisturbed keys n cell q calm (same.1 s))),
    )
