-- Numbers for texts, by which equal ones are found.
use Rattle.std.specs.Prelude.{◌≡◌, ◌<◌, ℕ, ◌+◌, Bool, false, List, [], ◌∷◌, ◌++◌, length, Option}
use Rattle.std.specs.Prelude.{Some, None, get_or, slice_get, slice_set}
use Rattle.view_pairs.specs.Partners.{sure}
use Rattle.view_pairs.specs.declared.partners.Couple.{Couple}

-- the texts that stand in a table stay where they are
abbrev pub Extends : List (List ℕ) → List (List ℕ) → Type 0
Extends old new = (x : ℕ) (text : List ℕ) → slice_get old x ≡ Some text
    → slice_get new x ≡ Some text

-- the key of a text is its place in the table; what doesn't pass has none
abbrev pub IsKey : (List ℕ → Bool) → List (List ℕ) → List ℕ → Option ℕ → Type 0
IsKey passes table text None = passes text ≡ false
IsKey passes table text (Some x) = slice_get table x ≡ Some text

abbrev pub AreKeys : (List ℕ → Bool) → List (List ℕ) → List (List ℕ) → List (Option ℕ) → Type 0
AreKeys passes table [] [] = Unit {0}
AreKeys passes table [] (key ∷ keys) = ⊥
AreKeys passes table (t ∷ texts) [] = ⊥
AreKeys passes table (t ∷ texts) (key ∷ keys) =
    IsKey passes table t key × AreKeys passes table texts keys

-- place m is that of its key
abbrev pub IsPut : List (Option ℕ) → List (Option ℕ) → Option ℕ → ℕ → Type 0
IsPut old new None m = new ≡ old
IsPut old new (Some x) m = new ≡ slice_set old x (Some m)

-- a place of each key below a count that has one
pub record AreFound (keys : List (Option ℕ)) (places : List (Option ℕ)) : Type 0 where
  pub at : (x m : ℕ) → slice_get places x ≡ Some (Some m) → slice_get keys m ≡ Some (Some x)
  pub some : (x m : ℕ) → slice_get keys m ≡ Some (Some x) → x < length places
      → (j : ℕ) × (slice_get places x ≡ Some (Some j))

-- a left node with the right one of its key
abbrev pub couple_to : ℕ → Option ℕ → List Couple
couple_to k None = []
couple_to k (Some m) = sure k m ∷ []

abbrev pub couple_at : List (Option ℕ) → ℕ → Option ℕ → List Couple
couple_at places k None = []
couple_at places k (Some x) = couple_to k (get_or places x None)

-- the left nodes from the k-th on
abbrev pub couples_from : List (Option ℕ) → ℕ → List (Option ℕ) → List Couple
couples_from places k [] = []
couples_from places k (key ∷ keys) = couple_at places k key ++ couples_from places (k + 1) keys
