-- Two lists of the same devices, each once, have one total width.
use Rattle.std.proofs.Common.{◌≡◌, ◌⊎◌, inl, inr, ◌+◌, List, [], ◌∷◌, refl, sym, ◌∙◌, ap, subst, arith}
use Rattle.plain_netlist.specs.Lists.{IsListed, AreApart}
use Rattle.merge_laws.specs.Merge.{Known, width_of, total_width}

-- the list without one of its items
record Without {D N : Type 0} (x : Known D N) (ys zs : List (Known D N)) : Type 0 where
  pub total : total_width ys ≡ width_of x.row + total_width zs
  pub apart : AreApart zs
  pub from : (z : Known D N) → IsListed z zs → IsListed z ys × (z ≡ x → ⊥)
  pub to : (z : Known D N) → IsListed z ys → (z ≡ x) ⊎ IsListed z zs

without : {D N : Type 0} (x : Known D N) (ys : List (Known D N)) → IsListed x ys → AreApart ys → (zs : List (Known D N)) × Without x ys zs
without x [] i apart = absurd i
without x (y ∷ ys) (inl e) apart = (
  ys,
  record {
    total = ap (λ (z : Known _ _). width_of z.row + total_width ys) (sym e);
    apart = apart.1;
    from = λ z i. (inr i, (λ q. apart.0 (subst (λ w. IsListed w ys) (q ∙ e) i)));
    to = λ z i. elim i [ inl q ↦ inl (q ∙ sym e) | inr j ↦ inr j ];
  },
)
without x (y ∷ ys) (inr i) apart =
    let r = without x ys i apart.1 in (
      y ∷ r.0,
      record {
        total = let a = r.1.total in omega arith;
        apart = ((λ j. apart.0 (r.1.from y j).0), r.1.apart);
        from = λ z j. elim j [
          | inl q ↦ (inl q, (λ p. apart.0 (subst (λ w. IsListed w ys) (sym p ∙ q) i)))
          | inr k ↦ let f = r.1.from z k in (inr f.0, f.1)
        ];
        to = λ z j. elim j [
          | inl q ↦ inr (inl q)
          | inr k ↦ elim (r.1.to z k) [ inl p ↦ inl p | inr l ↦ inr (inr l) ]
        ];
      },
    )

pub one_total : {D N : Type 0} (xs ys : List (Known D N)) → AreApart xs → AreApart ys → ((z : Known D N) → IsListed z xs → IsListed z ys) → ((z : Known D N) → IsListed z ys → IsListed z xs)
    → total_width xs ≡ total_width ys
one_total [] [] a b to from = refl
one_total [] (y ∷ ys) a b to from = absurd (from y (inl refl))
one_total (x ∷ xs) ys a b to from =
    let r = without x ys (to x (inl refl)) b in
    let rest = one_total xs r.0 a.1 r.1.apart
    (λ z i. elim (r.1.to z (to z (inr i))) [ inl e ↦ absurd (a.0 (subst (λ w. IsListed w xs) e i)) | inr j ↦ j ])
    (λ z i. let f = r.1.from z i in elim (from z f.0) [ inl e ↦ absurd (f.1 e) | inr j ↦ j ]) in
    let t = r.1.total in
    omega arith
