-- A design with a further layer in its cells.
use Rattle.std.specs.Prelude.{◌≡◌, ◌↔◌, ℕ}
use Rattle.flat_layout.specs.Layout.{Design, Place, Text, HasText, IsOwn, IsPlaced, IsReached}
use Rattle.geo_base.specs.declared.layer.LayerKey.{LayerKey}
use Rattle.geo_base.specs.declared.shapes.Square.{Square}
use Rattle.select_laws.specs.Selects.{Select, IsSelected, sight}
use Rattle.select_laws.specs.Whole.{IsOwnRegion}

-- all stands as it was, but for what the cells have on one key
pub record IsSameElse (d e : Design) (key : LayerKey) : Type 0 where
  pub top : e.top ≡ d.top
  pub places : (cell k : ℕ) (p : Place) → IsPlaced e cell k p ↔ IsPlaced d cell k p
  pub texts : (cell : ℕ) (t : Text) → HasText e cell t ↔ HasText d cell t
  pub own : (cell : ℕ) (other : LayerKey) (q : Square) → (other ≡ key → ⊥)
      → IsOwn e cell other q ↔ IsOwn d cell other q

-- what a cell holds of a selection: its own regions that are chosen
pub record IsOwnSelected (d : Design) (x : Select) (cell : ℕ) (q : Square) : Type 0 where
  pub own : IsOwnRegion d x.joint (sight x) cell q
  pub selected : IsSelected d x cell q

-- the one design is the other with a selection as a further layer: of each cell that the top
-- reaches, the chosen ones of its own regions
pub record IsLayered (d e : Design) (key : LayerKey) (x : Select) : Type 0 where
  pub same : IsSameElse d e key
  pub new : (cell : ℕ) (q : Square) → IsReached d cell
      → IsOwn e cell key q ↔ IsOwnSelected d x cell q
