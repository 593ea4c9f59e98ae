-- Where a cell's items stand, and how many there are.
use Rattle.std.specs.Prelude.{◌≡◌, ℕ, ◌<◌, List, length, get_or}
use Rattle.flat_layout.specs.Layout.{Design}
use Rattle.flat_layout.specs.Nets.{Tables}
use Rattle.flat_layout.specs.Regions.{Wiring}
use Rattle.net_link_laws.specs.Places.{places_of}
use Rattle.net_walk.specs.Pairs.{first_of}

-- the place of the first net of each placement
pub record AreFirsts (d : Design) (w : Wiring) (t : Tables) (cell : ℕ)
    (firsts : List ℕ) : Type 0 where
  pub long : length firsts ≡ length (places_of d cell)
  pub each : (k : ℕ) → k < length firsts → get_or firsts k 0 ≡ first_of d w t cell k
