-- What the rectangles of a circuit's nets cover.
use Rattle.std.specs.Prelude.{◌≡◌, ◌↔◌, ℕ, Bool, List, Option, Some, slice_get}
use Rattle.flat_layout.specs.Layout.{Design, Some_of}
use Rattle.flat_layout.specs.Nets.{Tables}
use Rattle.flat_layout.specs.Plane.{IsIn}
use Rattle.flat_layout.specs.Regions.{At}
use Rattle.geo_base.specs.declared.shapes.Square.{Square}
use Rattle.net_walk.specs.Held.{IsMarked}
use Rattle.view_shapes.specs.ReadLaws.{Called, NetShows}
use Rattle.view_netlist.specs.declared.drawing.Shape.{Shape}

-- the numbers tell which nets of its cell a circuit's nets are: these, and all are wanted
pub record TellsNets (wanted : List Bool) (numbers : List (Option ℕ))
    (nets : List ℕ) : Type 0 where
  pub stands : (x a : ℕ) → slice_get numbers x ≡ Some (Some a) → slice_get nets a ≡ Some x
  pub has : (x a : ℕ) → slice_get nets a ≡ Some x → slice_get numbers x ≡ Some (Some a)
  pub marked : (x a : ℕ) → slice_get nets a ≡ Some x → IsMarked wanted x

-- a rectangle of the layer has the square
abbrev pub HasShape : List Shape → ℕ → Square → Type 0
HasShape shapes c q = Some_of (λ s. (s.layer ≡ c) × IsIn q s.rect) shapes

-- each net's rectangles cover exactly what the cell's net shows
abbrev pub AreNetsDrawn : Design → Tables → Called → ℕ → List ℕ → (ℕ → List Shape) → Type 0
AreNetsDrawn d t called cell nets drawn = (a x c : ℕ) (q : Square) → slice_get nets a ≡ Some x
    → HasShape (drawn a) c q ↔ NetShows d t called cell x (At c q)
