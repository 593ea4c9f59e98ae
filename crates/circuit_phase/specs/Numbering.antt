-- Nets in the order in which they are first named.
use Rattle.std.specs.Prelude.{◌≡◌, Some, length, slice_get, ℕ, Bool, ◌==◌, List}
use Rattle.std.specs.Prelude.{[], ◌∷◌, ◌++◌, if◌then◌else◌}
use Rattle.std.specs.List.{list_any}
use Rattle.plain_netlist.specs.Normal.{AreNumbered}

-- the nets that are named so far, of so many
pub record Numbered : Type 0 where
  pub count : ℕ
  pub nets : List ℕ

abbrev pub has_net : List ℕ → ℕ → Bool
has_net nets x = list_any (λ y. y == x) nets

-- a net stands last where it isn't there yet
abbrev pub with_net : List ℕ → ℕ → List ℕ
with_net nets x = if has_net nets x then nets else nets ++ x ∷ []

-- each net that was numbered keeps its number
abbrev pub AreKept : List ℕ → List ℕ → Type 0
AreKept old new = (i x : ℕ) → slice_get old i ≡ Some x → slice_get new i ≡ Some x

-- each net that was numbered keeps its number; these are the numbers of these nets, as normal form
-- wants
pub record AreNumbersOf (old new nets numbers : List ℕ) : Type 0 where
  pub kept : AreKept old new
  pub count : length numbers ≡ length nets
  pub each : (i x n : ℕ) → slice_get nets i ≡ Some x → slice_get numbers i ≡ Some n
      → slice_get new n ≡ Some x
  pub numbered : AreNumbered (length new) (length old) numbers
