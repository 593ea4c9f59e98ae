-- What stands in a list, lists without repeats, rising lists.
use Rattle.std.specs.Prelude.{◌≡◌, ◌⊎◌, List, [], ◌∷◌}

-- a stands in the list
abbrev pub IsListed : {A : Type 0} → A → List A → Type 0
IsListed a [] = ⊥
IsListed a (x ∷ xs) = (a ≡ x) ⊎ IsListed a xs

-- no two places have the same
abbrev pub AreApart : {A : Type 0} → List A → Type 0
AreApart [] = Unit {0}
AreApart (x ∷ xs) = (IsListed x xs → ⊥) × AreApart xs

-- each comes, in an order, before all that stand behind it
abbrev pub AreRising : {A : Type 0} → (A → A → Type 0) → List A → Type 0
AreRising {A} R [] = Unit {0}
AreRising {A} R (x ∷ xs) = ((y : A) → IsListed y xs → R x y) × AreRising R xs
