-- Marks, and the marked numbers whose calls are still to be followed.
use Rattle.std.specs.Prelude.{ℕ, Bool, true, false, not, ◌&&◌, nat_lt, List, [], ◌∷◌, ◌++◌, length}
use Rattle.std.specs.Prelude.{slice_index_or, slice_set, if◌then◌else◌}

pub record Work : Type 0 where
  pub marks : List Bool
  pub work : List ℕ

-- number k marked, where it stands there and wasn't
abbrev pub with_mark : Work → ℕ → Work
with_mark w k =
    if nat_lt k (length w.marks) && not (slice_index_or w.marks k false)
    then record { marks = slice_set w.marks k true; work = w.work ++ k ∷ [] }
    else w

abbrev pub with_row : Work → List ℕ → Work
with_row w [] = w
with_row w (k ∷ ks) = with_row (with_mark w k) ks
