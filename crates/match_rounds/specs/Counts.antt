-- How many nodes classes have, and how many left ones.
use Rattle.std.specs.Prelude.{◌≡◌, ◌≢◌, ◌↔◌, ◌<◌, ◌-◌, ◌*◌, ℕ, true, List, [], ◌∷◌, ◌++◌, length}
use Rattle.std.specs.Prelude.{slice_index, slice_set}
use Rattle.match_rounds.specs.declared.counts.Counts.{Counts}

-- a class has more nodes of one side than of the other
abbrev pub HasUneven : List ℕ → List ℕ → Type 0
HasUneven size left = (d : ℕ) × (d < length size) × (2 * slice_index left d ≢ slice_index size d)

-- the flag says whether there is one
pub record AreFlagged (c : Counts) : Type 0 where
  pub lefts : length c.left.items ≡ length c.size.items
  pub flag : (c.is_uneven ≡ true) ↔ HasUneven c.size.items c.left.items

-- class w has so many less, and the last class has so many
abbrev pub split_list : List ℕ → ℕ → ℕ → List ℕ
split_list counts w n = slice_set counts w (slice_index counts w - n) ++ n ∷ []

pub record AreSplit (old new : Counts) (w size left : ℕ) : Type 0 where
  pub size_is : new.size.items ≡ split_list old.size.items w size
  pub left_is : new.left.items ≡ split_list old.left.items w left
