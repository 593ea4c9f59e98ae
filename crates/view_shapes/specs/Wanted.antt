-- Which nets of a placed cell are wanted, where some nets of the cell are.
use Rattle.std.specs.Prelude.{◌≡◌, ◌<◌, ◌+◌, ℕ, Bool, false, not, ◌&&◌, List, get_or, length}

-- of so many nets, whose nets in the cell stand in a list from a place on, but for those that are
-- called
pub record AreWantedBelow (net_of : List ℕ) (at count : ℕ)
    (wanted called below : List Bool) : Type 0 where
  pub long : length below ≡ count
  pub each : (b : ℕ) → b < count → get_or below b false
      ≡ (get_or wanted (get_or net_of (at + b) 0) false && not (get_or called b false))
