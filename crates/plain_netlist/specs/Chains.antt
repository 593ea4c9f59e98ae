-- Chains of links from one item to another.
use Rattle.std.specs.Prelude.{◌≡◌, List, [], ◌∷◌}

-- from a through the list's items, one link each, to b
abbrev pub IsChain : {A : Type 0} → (A → A → Type 0) → A → List A → A → Type 0
IsChain R a [] b = a ≡ b
IsChain R a (x ∷ xs) b = R a x × IsChain R x xs b

-- a chain of links leads from a to b
pub record Reaches {A : Type 0} (R : A → A → Type 0) (a b : A) : Type 0 where
  pub via : List A
  pub chain : IsChain R a via b
