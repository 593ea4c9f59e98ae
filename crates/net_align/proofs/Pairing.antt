-- Pairs listed one after another.
use Rattle.std.proofs.Common.{◌≡◌, inl, inr, ℕ, zero, suc, ◌+◌, ◌<◌, Bool, List, [], ◌∷◌, ◌++◌, length, Option, Some, None, slice_get, refl, sym, ◌∙◌, ap, subst, arith, length-append}
use Rattle.base_laws.proofs.Items.{push_cases, get_last, push_old}
use Rattle.std.specs.Prelude.{slice_index_or}
use Rattle.std.proofs.Math.Decide.{ℕ_discrete}
use Rattle.std.proofs.lemmas.Option.{none-some, slice_get_within}
use Rattle.net_align.specs.Paired.{ArePairsBelow, compared_partner}

module _ (of : List (Option ℕ)) (test : ℕ → ℕ → Bool) (n : ℕ) (lefts rights : List ℕ) (h : ArePairsBelow of test n lefts rights) where
  abbrev partner : ℕ → Option ℕ
  partner a = compared_partner test a (slice_index_or of a None)

  left_low : (k a : ℕ) → slice_get lefts k ≡ Some a → a < n
  left_low k a at =
      let l = slice_get_within lefts k a at in
      let e = h.long in
      let b = item rights k (omega (arith, l, e)) in
      (h.each k a b.0 at b.1).0
    where
      item : (xs : List ℕ) (i : ℕ) → i < length xs → (x : ℕ) × (slice_get xs i ≡ Some x)
      item [] i l = absurd (let m = l in omega arith)
      item (x ∷ xs) zero l = (x, refl)
      item (x ∷ xs) (suc i) l = item xs i (let m = l in omega arith)

  pub pair_added : (b : ℕ) → partner n ≡ Some b → ArePairsBelow of test (n + 1) (lefts ++ n ∷ []) (rights ++ b ∷ [])
  pair_added b is = record {
    long = let p = length-append lefts (n ∷ []) in let q = length-append rights (b ∷ []) in let e = h.long in omega (arith, p, q, e);
    each = λ k a d at bt. elim (push_cases lefts n a k at) [
      | inl p ↦ elim (push_cases rights b d k bt) [
        | inl q ↦ let r = h.each k a d p q in (let l = r.0 in omega arith, r.1)
        | inr q ↦ let l = slice_get_within lefts k a p in let e = h.long in let m = q.0 in absurd (omega (arith, l, e, m))
      ]
      | inr p ↦ elim (push_cases rights b d k bt) [
        | inl q ↦ let l = slice_get_within rights k d q in let e = h.long in let m = p.0 in absurd (omega (arith, l, e, m))
        | inr q ↦ (let e = p.1 in omega (arith, e), subst (λ (x : ℕ). partner x ≡ Some d) p.1 (is ∙ ap Some q.1))
      ]
    ];
    all = λ a d l e. elim (ℕ_discrete a n) [
      | yes same ↦
          let s : Some b ≡ Some d = sym is ∙ (ap partner (sym same) ∙ e) in
          let k : b ≡ d = cc in
          (length lefts, get_last lefts n ∙ ap Some (sym same), subst (λ (i : ℕ). slice_get (rights ++ b ∷ []) i ≡ Some d) (sym h.long) (get_last rights b ∙ ap Some k))
      | no not ↦ let r = h.all a d (omega (arith, l, not)) e in (r.0, push_old lefts n a r.0 r.1, push_old rights b d r.0 r.2)
    ];
    rising = λ j k a d at bt l. elim (push_cases lefts n d k bt) [
      | inl q ↦ elim (push_cases lefts n a j at) [
        | inl p ↦ h.rising j k a d p q l
        | inr p ↦ let w = slice_get_within lefts k d q in let e = p.0 in absurd (omega (arith, w, e, l))
      ]
      | inr q ↦ elim (push_cases lefts n a j at) [
        | inl p ↦ let w = left_low j a p in let e = q.1 in omega (arith, w, e)
        | inr p ↦ let e = p.0 in let f = q.0 in absurd (omega (arith, e, f, l))
      ]
    ];
  }

  pub none_added : partner n ≡ None → ArePairsBelow of test (n + 1) lefts rights
  none_added is = record {
    long = h.long;
    each = λ k a d at bt. let r = h.each k a d at bt in (let l = r.0 in omega arith, r.1);
    all = λ a d l e. elim (ℕ_discrete a n) [
      | yes same ↦ absurd (none-some d (sym is ∙ (ap partner (sym same) ∙ e)))
      | no not ↦ h.all a d (omega (arith, l, not)) e
    ];
    rising = h.rising;
  }

pub no_pairs : (of : List (Option ℕ)) (test : ℕ → ℕ → Bool) → ArePairsBelow of test 0 [] []
no_pairs of test = record {
  long = refl;
  each = λ k a b at bt. absurd (let z : ⊥ = cc in z);
  all = λ a b l e. absurd (let m = l in omega arith);
  rising = λ j k a b at bt l. absurd (let z : ⊥ = cc in z);
}
