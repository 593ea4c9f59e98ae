-- Classes of numbers that links join, numbered from 0 by their least members.
use Rattle.std.specs.Prelude.{◌≡◌, ◌⊎◌, ◌↔◌, ℕ, ◌<◌, List, [], ◌∷◌, length, get_or}
use Rattle.link_classes.specs.declared.classes.Link.{Link}
use Rattle.plain_netlist.specs.Chains.{Reaches}

-- the link joins the two numbers, in either order
abbrev pub IsOf : Link → ℕ → ℕ → Type 0
IsOf l i j = ((l.one ≡ i) × (l.other ≡ j)) ⊎ ((l.one ≡ j) × (l.other ≡ i))

-- one of the links does
abbrev pub IsLinked : List Link → ℕ → ℕ → Type 0
IsLinked [] i j = ⊥
IsLinked (l ∷ ls) i j = IsOf l i j ⊎ IsLinked ls i j

-- each link joins numbers below n
abbrev pub AreInRange : ℕ → List Link → Type 0
AreInRange n [] = Unit {0}
AreInRange n (l ∷ ls) = (l.one < n) × (l.other < n) × AreInRange n ls

-- of the numbers below n, those that a chain of links joins have one class, and others have not;
-- each class has a member, and each smaller class an earlier one
pub record AreClasses (n : ℕ) (links : List Link) (class_of : List ℕ) (count : ℕ) : Type 0 where
  pub long : length class_of ≡ n
  pub joined : (i j : ℕ) → i < n → j < n → (get_or class_of i 0 ≡ get_or class_of j 0)
      ↔ Reaches (IsLinked links) i j
  pub below : (i : ℕ) → i < n → get_or class_of i 0 < count
  pub used : (x : ℕ) → x < count → (i : ℕ) × (i < n) × (get_or class_of i 0 ≡ x)
  pub earlier : (i y : ℕ) → i < n → y < get_or class_of i 0 → (j : ℕ) × (j < i)
      × (get_or class_of j 0 ≡ y)
