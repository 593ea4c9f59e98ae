-- Rows and their images, one after another.
use Rattle.std.proofs.Common.{◌≡◌, ℕ, ◌+◌, ◌<◌, true, false, List, length, map, slice_get, slice_index, Some, refl, sym, subst, ◌∙◌, arith, true≢false, Decides}
use Rattle.std.proofs.Math.Decide.{ℕ_discrete}
use Rattle.std.proofs.lemmas.Option.{slice_get_within, same_Some}
use Rattle.std.proofs.lemmas.List.{length-map}

-- each row up to i has P with its image
abbrev pub AreKept : {X : Type 0} → (X → X → Type 0) → List X → List X → List ℕ → ℕ → Type 0
AreKept {X} P xs ys f i = (k : ℕ) (d e : X) → k < i → slice_get xs k ≡ Some d → slice_get ys (slice_index f k) ≡ Some e → P d e

abbrev pub AllKept : {X : Type 0} → (X → X → Type 0) → List X → List X → List ℕ → Type 0
AllKept {X} P xs ys f = (k : ℕ) (d e : X) → slice_get xs k ≡ Some d → slice_get ys (slice_index f k) ≡ Some e → P d e

pub more : {X : Type 0} (P : X → X → Type 0) (xs ys : List X) (f : List ℕ) (i : ℕ) (x y : X)
    → AreKept P xs ys f i → slice_get xs i ≡ Some x → slice_get ys (slice_index f i) ≡ Some y → P x y → AreKept P xs ys f (i + 1)
more {X} P xs ys f i x y h a b p k d e l g r = elim (ℕ_discrete k i) [
  | yes is ↦
      let g2 : slice_get xs i ≡ Some d = subst (λ (j : ℕ). slice_get xs j ≡ Some d) is g in
      let r2 : slice_get ys (slice_index f i) ≡ Some e = subst (λ (j : ℕ). slice_get ys (slice_index f j) ≡ Some e) is r in
      let dx : x ≡ d = same_Some _ _ (sym a ∙ g2) in
      let ey : y ≡ e = same_Some _ _ (sym b ∙ r2) in
      subst (λ (u : X). P u e) dx (subst (λ (u : X). P x u) ey p)
  | no not ↦ h k d e (omega (arith, not)) g r
]

pub broken : {X : Type 0} (P : X → X → Type 0) (xs ys : List X) (f : List ℕ) (i : ℕ) (x y : X)
    → slice_get xs i ≡ Some x → slice_get ys (slice_index f i) ≡ Some y → (P x y → ⊥) → Decides false (AllKept P xs ys f)
broken P xs ys f i x y a b not = ((λ e. absurd (true≢false (sym e))), (λ all. absurd (not (all i x y a b))))

pub all : {A X : Type 0} (v : A → X) (P : X → X → Type 0) (xs : List A) (ys : List X) (f : List ℕ) (i : ℕ)
    → length xs ≡ i → AreKept P (map v xs) ys f i → Decides true (AllKept P (map v xs) ys f)
all v P xs ys f i long h = ((λ e k d g a b. let w = slice_get_within (map v xs) k d a in let n = length-map xs v in h k d g (omega arith) a b), (λ s. refl))
