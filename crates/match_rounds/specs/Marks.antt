-- The classes that a round looks at.
use Rattle.std.specs.Prelude.{◌≡◌, ◌≢◌, ◌⊎◌, ◌<◌, ◌≤◌, ◌+◌, ℕ, Bool, true, false, length}
use Rattle.std.specs.Prelude.{slice_index, slice_index_or}
use Rattle.match_rounds.specs.declared.marks.Marks.{Marks}

abbrev pub is_marked : Marks → ℕ → Bool
is_marked m d = slice_index_or m.is_fresh.items d false

-- the list has the marked classes, each once
pub record AreListed (m : Marks) : Type 0 where
  pub below : (i : ℕ) → i < length m.fresh.items
      → slice_index m.fresh.items i < length m.is_fresh.items
  pub marked : (i : ℕ) → i < length m.fresh.items → is_marked m (slice_index m.fresh.items i) ≡ true
  pub found : (d : ℕ) → d < length m.is_fresh.items → is_marked m d ≡ true
      → (i : ℕ) × (i < length m.fresh.items) × (slice_index m.fresh.items i ≡ d)
  pub once : (i j : ℕ) → i < length m.fresh.items → j < i
      → slice_index m.fresh.items j ≢ slice_index m.fresh.items i

-- a class was added that was part of class w: one of the two is marked, and both are where the
-- whole was
pub record IsHalved (old new : Marks) (w : ℕ) : Type 0 where
  pub long : length new.is_fresh.items ≡ length old.is_fresh.items + 1
  pub rest : (d : ℕ) → d < length old.is_fresh.items → d ≢ w → is_marked new d ≡ is_marked old d
  pub one : (is_marked new w ≡ true) ⊎ (is_marked new (length old.is_fresh.items) ≡ true)
  pub both : is_marked old w ≡ true → (is_marked new w ≡ true)
      × (is_marked new (length old.is_fresh.items) ≡ true)

-- the first i of the listed classes are marked no more
pub record AreCleared (old new : Marks) (i : ℕ) : Type 0 where
  pub long : length new.is_fresh.items ≡ length old.is_fresh.items
  pub list : new.fresh ≡ old.fresh
  pub none : (d : ℕ) → (is_marked new d ≡ false) ⊎ ((j : ℕ) × (i ≤ j)
      × (j < length old.fresh.items) × (slice_index old.fresh.items j ≡ d))
