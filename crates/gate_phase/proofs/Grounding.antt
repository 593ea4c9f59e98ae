-- Whether a conductor has a global.
use Rattle.std.proofs.Common.{◌≡◌, inl, inr, ℕ, zero, suc, ◌==◌, if◌then◌else◌, List, [], ◌∷◌, Some, None, map, slice_get, refl, sym, ◌∙◌, ap}
use Rattle.std.proofs.lemmas.Bool.{eqb-true, cases_Bool}
use Rattle.std.proofs.lemmas.Bool.Decides.{eqb_tells}
use Rattle.flat_layout.specs.Regions.{Line, ground_of}
use Rattle.rule_layers.specs.Meaning.{line}

module _ (c : ℕ) (number : ℕ × List ℕ → ℕ) where
  abbrev lines : List (ℕ × List ℕ) → List Line
  lines gs = map (λ (g : ℕ × List ℕ). line g.0 (number g)) gs

  pub no_ground : (gs : List (ℕ × List ℕ)) → ((k : ℕ) (g : ℕ × List ℕ) → slice_get gs k ≡ Some g → g.0 ≡ c → ⊥) → ground_of c (lines gs) ≡ None
  no_ground [] none = refl
  no_ground (g ∷ gs) none = elim (cases_Bool (g.0 == c)) [
    | inl e ↦ absurd (none 0 g refl (eqb-true _ _ e))
    | inr e ↦ ap (λ b. if b then Some (number g) else ground_of c (lines gs)) e ∙ no_ground gs (λ k x at. none (suc k) x at)
  ]

  pub has_ground : (gs : List (ℕ × List ℕ)) (k : ℕ) (g : ℕ × List ℕ) → slice_get gs k ≡ Some g → g.0 ≡ c → ground_of c (lines gs) ≡ None → ⊥
  has_ground [] k g at e none = let f : None ≡ Some g = at in let z : ⊥ = cc in z
  has_ground (x ∷ gs) zero g at e none =
      let same : x ≡ g = (let h : Some x ≡ Some g = at in cc) in
      elim (eqb_tells x.0 c) [
        | inl (t, f) ↦ let h : Some (number x) ≡ None = sym (ap (λ b. if b then Some (number x) else ground_of c (lines gs)) t) ∙ none in let z : ⊥ = cc in z
        | inr (t, n) ↦ n (ap (λ (y : ℕ × List ℕ). y.0) same ∙ e)
      ]
  has_ground (x ∷ gs) (suc k) g at e none = elim (cases_Bool (x.0 == c)) [
    | inl f ↦ let h : Some (number x) ≡ None = sym (ap (λ b. if b then Some (number x) else ground_of c (lines gs)) f) ∙ none in let z : ⊥ = cc in z
    | inr f ↦ has_ground gs k g at e (sym (ap (λ b. if b then Some (number x) else ground_of c (lines gs)) f) ∙ none)
  ]
