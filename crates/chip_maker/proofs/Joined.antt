-- Texts written one behind the other.
use Rattle.std.proofs.Common.{◌≡◌, ℕ, List, [], ◌∷◌, ◌++◌, ◌∙◌, ap, refl, sym, append_assoc}
use Rattle.std.specs.List.{flat_map}
use Rattle.std.proofs.lemmas.List.{append-nil}
use Rattle.std.proofs.lemmas.Grind.{flat_map-append}

-- a piece, and what comes behind it
pub first : (a rest o p z : List ℕ) → p ≡ o ++ a → z ≡ p ++ rest → z ≡ o ++ (a ++ rest)
first a rest o p z e f = f ∙ ap (λ (m : List ℕ). m ++ rest) e ∙ append_assoc o a rest

-- the last piece of a list of pieces
pub last : (a p z : List ℕ) → z ≡ p ++ a → z ≡ p ++ (a ++ [])
last a p z e = e ∙ ap (λ (m : List ℕ). p ++ m) (sym (append-nil a))

-- two items, several, and one more, before an end
pub in_turn : {A : Type 0} (f : A → List ℕ) (a b d : A) (cs : List A) (e : List ℕ)
    → f a ++ (f b ++ (flat_map f cs ++ (f d ++ e))) ≡ flat_map f (a ∷ b ∷ cs ++ d ∷ []) ++ e
in_turn f a b d cs e = simp (flat_map-append, append_assoc, append-nil) refl
