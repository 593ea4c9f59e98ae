-- A list for each number, as the tags of each net of a cell, in any order.
use Rattle.std.specs.Prelude.{◌≡◌, ◌⊎◌, ◌↔◌, ℕ, List, [], Some, get_or, length, slice_get}
use Rattle.plain_netlist.specs.Lists.{IsListed}

-- the list of the number has the element
abbrev pub Has : {A : Type 0} → List (List A) → ℕ → A → Type 0
Has lists x s = IsListed s (get_or lists x [])

-- so many lists, all empty
pub record HaveNone {A : Type 0} (count_of : ℕ) (lists : List (List A)) : Type 0 where
  pub count : length lists ≡ count_of
  pub none : (x : ℕ) (s : A) → Has lists x s → ⊥

-- the lists have what they had, and what is in a relation
pub record Adds {A : Type 0} (R : ℕ → A → Type 0) (old new : List (List A)) : Type 0 where
  pub count : length new ≡ length old
  pub each : (x : ℕ) (s : A) → Has new x s ↔ (Has old x s ⊎ R x s)

-- the relation of some element of a list, by its place
abbrev pub OfSome : {A B : Type 0} → (ℕ → B → ℕ → A → Type 0) → List B → ℕ → A → Type 0
OfSome {A} {B} Q items x s =
    (i : ℕ) × (item : B) × (slice_get items i ≡ Some item) × Q i item x s

-- the list of the number has something
abbrev pub HasAny : {A : Type 0} → List (List A) → ℕ → Type 0
HasAny {A} lists x = (s : A) × Has lists x s
