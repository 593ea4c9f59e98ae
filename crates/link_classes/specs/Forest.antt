-- Trees of numbers, as the list of each number's parent.
use Rattle.std.specs.Prelude.{◌≡◌, ◌≢◌, ◌⊎◌, ◌↔◌, ℕ, suc, ◌+◌, ◌<◌, ◌≤◌, ◌==◌, Bool, true, false}
use Rattle.std.specs.Prelude.{List, [], ◌∷◌, length, get_or, Option, Some, None}
use Rattle.link_classes.specs.Classes.{IsLinked, IsOf}
use Rattle.link_classes.specs.declared.classes.Link.{Link}
use Rattle.plain_netlist.specs.Chains.{Reaches}

-- the parent of i is j
abbrev pub IsUp : List ℕ → ℕ → ℕ → Type 0
IsUp p i j = (i < length p) × (get_or p i 0 ≡ j)

abbrev pub IsEdge : List ℕ → ℕ → ℕ → Type 0
IsEdge p i j = IsUp p i j ⊎ IsUp p j i

abbrev pub InOneTree : List ℕ → ℕ → ℕ → Type 0
InOneTree p i j = Reaches (IsEdge p) i j

-- its own parent
abbrev pub IsTop : List ℕ → ℕ → Type 0
IsTop p i = IsUp p i i

abbrev pub one_if : Bool → ℕ
one_if true = 1
one_if false = 0

-- how many tops a list has, of which the first number is k
abbrev pub tops_from : ℕ → List ℕ → ℕ
tops_from k [] = 0
tops_from k (x ∷ xs) = one_if (x == k) + tops_from (suc k) xs

-- ranks rise on the way up, and were raised only where a tree was hung on another
pub record IsForest (p rank : List ℕ) : Type 0 where
  pub long : length rank ≡ length p
  pub inside : (i : ℕ) → i < length p → get_or p i 0 < length p
  pub rises : (i : ℕ) → i < length p → get_or p i 0 ≢ i
      → get_or rank i 0 < get_or rank (get_or p i 0) 0
  pub few : (i : ℕ) → i < length p → get_or rank i 0 + tops_from 0 p ≤ length p

-- the same numbers in one tree, with the same tops
pub record SameTrees (p q : List ℕ) : Type 0 where
  pub long : length q ≡ length p
  pub kept : (i : ℕ) → IsTop p i → IsTop q i
  pub trees : (i j : ℕ) → InOneTree q i j ↔ InOneTree p i j

-- each number below n a tree of its own
pub record AreAlone (p : List ℕ) (n : ℕ) : Type 0 where
  pub long : length p ≡ n
  pub own : (i : ℕ) → i < n → get_or p i 0 ≡ i

-- in one tree now are those that the trees before and the link join
pub record IsJoinedBy (p : List ℕ) (l : Link) (q : List ℕ) : Type 0 where
  pub long : length q ≡ length p
  pub trees : (i j : ℕ) → InOneTree q i j ↔ Reaches (λ a b. InOneTree p a b ⊎ IsOf l a b) i j

-- the trees of the links
pub record AreTreesOf (p : List ℕ) (n : ℕ) (links : List Link) : Type 0 where
  pub long : length p ≡ n
  pub trees : (i j : ℕ) → InOneTree p i j ↔ Reaches (IsLinked links) i j

-- the trees as classes, numbered by their least members
pub record AreNumbered (p c : List ℕ) (count : ℕ) : Type 0 where
  pub long : length c ≡ length p
  pub joined : (i j : ℕ) → i < length p → j < length p → (get_or c i 0 ≡ get_or c j 0)
      ↔ InOneTree p i j
  pub below : (i : ℕ) → i < length p → get_or c i 0 < count
  pub used : (x : ℕ) → x < count → (i : ℕ) × (i < length p) × (get_or c i 0 ≡ x)
  pub earlier : (i y : ℕ) → i < length p → y < get_or c i 0 → (j : ℕ) × (j < i) × (get_or c j 0 ≡ y)

-- the first i numbers have their classes, and the tops of their trees have the same
pub record SoFar (p q : List ℕ) (at : List (Option ℕ)) (i : ℕ) (c : List ℕ) (count : ℕ) : Type 0
  where
    pub same : SameTrees p q
    pub wide : length at ≡ length p
    pub long : length c ≡ i
    pub few : count ≤ i
    pub met : (j : ℕ) → j < i → (r : ℕ) × IsTop q r × InOneTree p j r
        × (get_or at r None ≡ Some (get_or c j 0))
    pub told : (r x : ℕ) → get_or at r None ≡ Some x → IsTop q r × (j : ℕ) × (j < i)
        × (get_or c j 0 ≡ x) × InOneTree p j r
    pub below : (j : ℕ) → j < i → get_or c j 0 < count
    pub used : (x : ℕ) → x < count → (j : ℕ) × (j < i) × (get_or c j 0 ≡ x)
    pub earlier : (j y : ℕ) → j < i → y < get_or c j 0 → (k : ℕ) × (k < j) × (get_or c k 0 ≡ y)
    pub apart : (r s x : ℕ) → get_or at r None ≡ Some x → get_or at s None ≡ Some x → r ≡ s

-- on the way up from start
pub record IsOnWay (p q rank : List ℕ) (start x : ℕ) : Type 0 where
  pub forest : IsForest q rank
  pub same : SameTrees p q
  pub inside : x < length q
  pub way : InOneTree q start x
