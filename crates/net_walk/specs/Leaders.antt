-- Placements of a cell that stand alike: one of them leads the others.
use Rattle.std.specs.Prelude.{◌≡◌, ℕ, ◌<◌, List, get_or, length, slice_get}
use Rattle.net_walk.specs.declared.cells.Element.{Element}

-- a placement leads itself, and stands as another does
pub record IsLeader (elements : List Element) (leaders : List ℕ) (leader k : ℕ) : Type 0 where
  pub known : leader < length leaders
  pub leads : get_or leaders leader 0 ≡ leader
  pub alike : slice_get elements leader ≡ slice_get elements k

-- the numbers of the placements that lead the first n
pub record AreLeaders (elements : List Element) (n : ℕ) (leaders : List ℕ) : Type 0 where
  pub long : length leaders ≡ n
  pub each : (k : ℕ) → k < n → IsLeader elements leaders (get_or leaders k 0) k

-- the one leads the other, which is among the first n
abbrev pub IsFollower : List ℕ → ℕ → ℕ → ℕ → Type 0
IsFollower leaders n i j = (j < n) × (get_or leaders j 0 ≡ i)
