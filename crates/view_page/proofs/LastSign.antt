-- What stands before the last $ of a name.
use Rattle.std.proofs.Common.{◌≡◌, inl, inr, ℕ, zero, suc, ◌-◌, ◌≤◌, ◌==◌, Bool, true, false, List, [], ◌∷◌, ◌++◌, Option, Some, None, length, take, get_or, arith, refl, ap, if◌then◌else◌}
use Rattle.std.proofs.lemmas.Bool.{eq-eqb}
use Rattle.std.proofs.lemmas.Bool.Decides.{eqb_tells}
use Rattle.view_page.specs.Notes.{before_last}

last_is : (c : ℕ) → (c == 0x24) ≡ true → before_last (c ∷ []) ≡ Some []
last_is c e = ap (λ (b : Bool). if b then Some [] else None) e

last_not : (c : ℕ) → (c == 0x24) ≡ false → before_last (c ∷ []) ≡ None
last_not c e = ap (λ (b : Bool). if b then Some [] else None) e

extend : ℕ → Option (List ℕ) → Option (List ℕ)
extend b found = elim found [ Some front ↦ Some (b ∷ front) | None ↦ if b == 0x24 then Some [] else None ]

at_sign : (xs : List ℕ) (c : ℕ) → (c == 0x24) ≡ true → before_last (xs ++ c ∷ []) ≡ Some xs
unfolding extend
at_sign [] c e = last_is c e
at_sign (x ∷ xs) c e = ap (extend x) (at_sign xs c e)

no_sign : (xs : List ℕ) (c : ℕ) → (c == 0x24) ≡ false → before_last (xs ++ c ∷ []) ≡ before_last xs
unfolding extend
no_sign [] c e = last_not c e
no_sign (x ∷ xs) c e = ap (extend x) (no_sign xs c e)

pub at_last : (xs : List ℕ) (c : ℕ) → c ≡ 0x24 → before_last (xs ++ c ∷ []) ≡ Some xs
at_last xs c e = at_sign xs c (eq-eqb c 0x24 e)

is_not : (c : ℕ) → (c ≡ 0x24 → ⊥) → (c == 0x24) ≡ false
is_not c h = elim (eqb_tells c 0x24) [ inl w ↦ absurd (h w.1) | inr w ↦ w.0 ]

pub not_last : (xs : List ℕ) (c : ℕ) → (c ≡ 0x24 → ⊥) → before_last (xs ++ c ∷ []) ≡ before_last xs
not_last xs c h = no_sign xs c (is_not c h)

last_at : (xs : List ℕ) (n d : ℕ) → suc n ≡ length xs → xs ≡ take n xs ++ get_or xs n d ∷ []
last_at [] n d h = absurd (omega arith)
last_at (x ∷ []) zero d h = refl
last_at (x ∷ []) (suc n) d h = absurd (omega arith)
last_at (x ∷ y ∷ ys) zero d h = absurd (omega arith)
last_at (x ∷ y ∷ ys) (suc n) d h = ap (λ (zs : List ℕ). x ∷ zs) (last_at (y ∷ ys) n d (omega arith))

-- a list's front and its last
pub front_and_last : (xs : List ℕ) (d : ℕ) → 1 ≤ length xs → xs ≡ take (length xs - 1) xs ++ get_or xs (length xs - 1) d ∷ []
front_and_last xs d h = last_at xs (length xs - 1) d (omega arith)
