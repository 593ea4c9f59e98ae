-- Facts of each item of a written list.
use Rattle.std.proofs.Common.{◌≡◌, inl, inr, ℕ, zero, suc, List, [], ◌∷◌, Some, slice_get, sym, subst}
use Rattle.std.proofs.lemmas.Option.{same_Some}
use Rattle.plain_netlist.specs.Lists.{IsListed}
use Rattle.law_samples.proofs.layout.Right.{none_some}

-- the i-th item has P i
abbrev pub AllAt : {A : Type 0} → (ℕ → A → Type 0) → List A → Type 0
AllAt P [] = Unit {0}
AllAt P (x ∷ xs) = P 0 x × AllAt (λ i. P (suc i)) xs

pub each_at : {A : Type 0} (P : ℕ → A → Type 0) (xs : List A) → AllAt P xs → (i : ℕ) (x : A) → slice_get xs i ≡ Some x → P i x
each_at P [] h i x e = none_some x e
each_at P (y ∷ ys) h zero x e = subst (P 0) (same_Some _ _ e) h.0
each_at P (y ∷ ys) h (suc i) x e = each_at (λ j. P (suc j)) ys h.1 i x e

-- what holds of four items holds of each listed one
pub each_of_four : {A : Type 0} (P : A → Type 0) (a b c d : A) → P a → P b → P c → P d → (x : A) → IsListed x (a ∷ b ∷ c ∷ d ∷ []) → P x
each_of_four P a b c d pa pb pc pd x (inl e) = subst P (sym e) pa
each_of_four P a b c d pa pb pc pd x (inr (inl e)) = subst P (sym e) pb
each_of_four P a b c d pa pb pc pd x (inr (inr (inl e))) = subst P (sym e) pc
each_of_four P a b c d pa pb pc pd x (inr (inr (inr (inl e)))) = subst P (sym e) pd
each_of_four P a b c d pa pb pc pd x (inr (inr (inr (inr n)))) = absurd n
