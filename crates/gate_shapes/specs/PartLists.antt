-- The regions of a set, joined at edges or at corners, in order of their least squares.
use Rattle.std.specs.Prelude.{◌≡◌, ◌↔◌, ℕ, ◌<◌, ◌==◌, List, [], ◌∷◌, Some, slice_get, if◌then◌else◌}
use Rattle.geo_base.specs.declared.shapes.Rect.{Rect}
use Rattle.geo_base.specs.declared.shapes.Square.{Square}
use Rattle.flat_layout.specs.Parts.{Joint, Edges, InRegion, IsLeast}
use Rattle.flat_layout.specs.Plane.{IsSquareBefore}
use Rattle.gate_shapes.specs.Sets.{in_set}

-- one region of the set, by its least square
pub record IsRegion (joint : Joint) (rects part : List Rect) (s : Square) : Type 0 where
  pub least : IsLeast (in_set part) s
  pub same : (q : Square) → in_set part q ↔ InRegion joint (in_set rects) s q

-- each region of the set, once, in order of their least squares
pub record AreRegions (joint : Joint) (rects : List Rect) (parts : List (List Rect)) : Type 0
  where
    pub each : (i : ℕ) (part : List Rect) → slice_get parts i ≡ Some part → (s : Square)
        × IsRegion joint rects part s
    pub found : (q : Square) → in_set rects q → (i : ℕ) × (part : List Rect)
        × (slice_get parts i ≡ Some part) × in_set part q
    pub order : (i j : ℕ) (a b : List Rect) (s t : Square) → i < j → slice_get parts i ≡ Some a
        → slice_get parts j ≡ Some b → IsLeast (in_set a) s → IsLeast (in_set b) t
        → IsSquareBefore s t

-- the edge-connected parts
abbrev pub AreParts : List Rect → List (List Rect) → Type 0
AreParts = AreRegions Edges

-- the rectangles of one class
abbrev pub members : ℕ → List ℕ → List Rect → List Rect
members x [] rects = []
members x (c ∷ classes) [] = []
members x (c ∷ classes) (r ∷ rects) =
    if c == x then r ∷ members x classes rects else members x classes rects
