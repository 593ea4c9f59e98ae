-- What is shown of the wanted nets of a cell.
use Rattle.std.specs.Prelude.{ℕ, Bool, false, List, [], get_or, map}
use Rattle.std.specs.Global.{Vec}
use Rattle.flat_layout.specs.Layout.{Design}
use Rattle.flat_layout.specs.Nets.{Tables}
use Rattle.flat_layout.specs.Plane.{IsIn}
use Rattle.flat_layout.specs.Regions.{At}
use Rattle.geo_base.specs.Rects.{IsRect}
use Rattle.geo_base.specs.declared.shapes.Rect.{Rect}
use Rattle.geo_base.specs.declared.shapes.Square.{Square}
use Rattle.net_walk.specs.Held.{IsMarked}
use Rattle.view_shapes.specs.ReadLaws.{Called, NetShows}
use Rattle.view_words.specs.Numbers.{IsSmallRect}

-- for each cell, the marks of its nets that calls have a pin on
abbrev pub called_by : List (Vec Bool) → Called
called_by marks cell b = get_or (get_or (map (λ v. v.items) marks) cell []) b false

-- the wanted nets of the cell show it
abbrev pub IsShownWanted : Design → Tables → Called → ℕ → List Bool → ℕ → ℕ → Square → Type 0
IsShownWanted d t called cell wanted c x q =
    IsMarked wanted x × NetShows d t called cell x (At c q)

-- a rectangle that a wanted net of the cell shows reaches 2^30 or more from the origin
pub record ShowsFar (d : Design) (t : Tables) (called : Called) (cell : ℕ)
    (wanted : List Bool) : Type 0 where
  pub conductor : ℕ
  pub net : ℕ
  pub rect : Rect
  pub proper : IsRect rect
  pub shown : (q : Square) → IsIn q rect → IsShownWanted d t called cell wanted conductor net q
  pub far : IsSmallRect rect → ⊥
