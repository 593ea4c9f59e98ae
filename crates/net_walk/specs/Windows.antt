-- What a window finds among a cell's own rectangles and its placements.
use Rattle.std.specs.Prelude.{◌≡◌, ◌⊎◌, ◌<◌, ℕ, List, Contains, Some, get_or, length, slice_get}
use Rattle.flat_layout.specs.Layout.{Design, Place}
use Rattle.flat_layout.specs.Nets.{Tables}
use Rattle.flat_layout.specs.Plane.{IsIn}
use Rattle.geo_base.specs.declared.shapes.Rect.{Rect}
use Rattle.geo_base.specs.declared.shapes.Square.{Square}
use Rattle.net_link_laws.specs.Places.{places_of}
use Rattle.net_walk.specs.Walk.{HasNoPart}

-- the numbers below a count, all of them
pub record AreAllNumbers (count : ℕ) (numbers : List ℕ) : Type 0 where
  pub inside : (j : ℕ) → j < length numbers → get_or numbers j 0 < count
  pub all : (k : ℕ) → k < count → Contains numbers k

-- positions of rectangles, among them those of all that share a square with the window
pub record AreOwnNear (own : List Rect) (window : Rect) (near : List ℕ) : Type 0 where
  pub inside : (j : ℕ) → j < length near → get_or near j 0 < length own
  pub all : (r : ℕ) (rect : Rect) (q : Square) → slice_get own r ≡ Some rect → IsIn q rect
      → IsIn q window → Contains near r

-- numbers of placements, among them those of all that bring squares of nets into the window
pub record ArePlacesNear (d : Design) (t : Tables) (cell : ℕ) (window : Rect)
    (near : List ℕ) : Type 0 where
  pub inside : (j : ℕ) → j < length near → get_or near j 0 < length (places_of d cell)
  pub all : (k : ℕ) (p : Place) → slice_get (places_of d cell) k ≡ Some p
      → HasNoPart d t p window ⊎ Contains near k
