-- Partners of the nodes of one kind.
use Rattle.std.specs.Prelude.{◌≡◌, ◌≢◌, ◌⊎◌, ◌<◌, ℕ, ◌+◌, ◌==◌, Bool, true, false, List, [], ◌∷◌}
use Rattle.std.specs.Prelude.{◌++◌, length, Option, Some, None, slice_get, slice_set}
use Rattle.std.specs.List.{list_all, range_with_len}
use Rattle.std.specs.List.Sorted.{IsPermutation}
use Rattle.view_pairs.specs.declared.partners.Couple.{Couple}
use Rattle.view_pairs.specs.declared.partners.Partner.{Partner}
use Rattle.view_pairs.specs.declared.partners.Partners.{Partners}

-- the right nodes that are partners, by the left ones
abbrev pub chosen : List (Option Partner) → List ℕ
chosen [] = []
chosen (None ∷ xs) = chosen xs
chosen (Some p ∷ xs) = p.number ∷ chosen xs

-- n left nodes have an entry each, and each of m right ones is one's partner or free
pub record ArePartners (n m : ℕ) (x : Partners) : Type 0 where
  pub count : length x.lefts.items ≡ n
  pub rights : IsPermutation (range_with_len 0 m) (chosen x.lefts.items ++ x.free.items)

-- the k-th left node has this partner
abbrev pub HasPartner : List (Option Partner) → ℕ → Partner → Type 0
HasPartner xs k p = slice_get xs k ≡ Some (Some p)

abbrev pub couple : ℕ → Partner → Couple
couple k p = record { left = k; right = p }

-- these two, that weren't taken from several
abbrev pub sure : ℕ → ℕ → Couple
sure k m = couple k (record { number = m; tied = false })

-- the couple is listed, and none before it shares a node with it
abbrev pub IsFirst : Couple → List Couple → Type 0
IsFirst c [] = ⊥
IsFirst c (d ∷ couples) = (c ≡ d)
    ⊎ ((d.left ≢ c.left) × (d.right.number ≢ c.right.number) × IsFirst c couples)

-- of so many left and right nodes each such couple is partners
abbrev pub AreFirstTaken : ℕ → ℕ → List Couple → List (Option Partner) → Type 0
AreFirstTaken n m couples xs = (c : Couple) → IsFirst c couples → c.left < n
    → c.right.number < m → HasPartner xs c.left c.right

-- the right partner of a left node
abbrev pub number_in : Option (Option Partner) → Option ℕ
number_in None = None
number_in (Some None) = None
number_in (Some (Some p)) = Some p.number

abbrev pub partner_in : Partners → ℕ → Option ℕ
partner_in x k = number_in (slice_get x.lefts.items k)

abbrev pub is_number : Option ℕ → ℕ → Bool
is_number None m = false
is_number (Some k) m = k == m

-- these two are partners
abbrev pub meets : Partners → ℕ → ℕ → Bool
meets x k m = is_number (partner_in x k) m

-- the places of false, the first one being k
abbrev pub free_from : ℕ → List Bool → List ℕ
free_from k [] = []
free_from k (true ∷ marks) = free_from (k + 1) marks
free_from k (false ∷ marks) = k ∷ free_from (k + 1) marks

-- the right nodes that aren't taken are free
abbrev pub IsClaimed : List (Option Partner) → List Bool → Type 0
IsClaimed lefts taken =
    IsPermutation (range_with_len 0 (length taken)) (chosen lefts ++ free_from 0 taken)

-- a couple is left out where one of its nodes has a partner already
abbrev pub MayNot : List (Option Partner) → List Bool → Couple → Type 0
MayNot lefts taken c = slice_get lefts c.left ≡ Some None
    → slice_get taken c.right.number ≡ Some false → ⊥

-- or becomes partners, of a left node that had none
pub record IsTaken (old new : List (Option Partner)) (taken marks : List Bool) (c : Couple) :
    Type 0 where
  pub lone : slice_get old c.left ≡ Some None
  pub lefts : new ≡ slice_set old c.left (Some c.right)
  pub rights : marks ≡ slice_set taken c.right.number true

-- what the couple changes
abbrev pub IsClaim : List (Option Partner) → List (Option Partner) → List Bool → List Bool → Couple
    → Type 0
IsClaim old new taken marks c = (MayNot old taken c × (new ≡ old) × (marks ≡ taken))
    ⊎ IsTaken old new taken marks c

-- what is true of all couples is so of each node and its partner
abbrev pub HaveAll : List Couple → List (Option Partner) → Type 0
HaveAll couples xs = (is : Couple → Bool) → list_all is couples ≡ true → (k : ℕ) (p : Partner)
    → HasPartner xs k p → is (couple k p) ≡ true

-- some of the couples are partners, the rest are still to come
pub record AreClaimed (n m : ℕ) (all rest : List Couple) (lefts : List (Option Partner))
    (taken : List Bool) : Type 0 where
  pub count : length lefts ≡ n
  pub long : length taken ≡ m
  pub claimed : IsClaimed lefts taken
  pub same : (is : Couple → Bool) → list_all is all ≡ true → list_all is rest ≡ true
  pub have : HaveAll all lefts
