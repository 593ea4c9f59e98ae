-- Rectangles sorted out by their classes.
use Rattle.std.specs.Prelude.{◌≡◌, ℕ, List, Some, slice_get, length, Vec}
use Rattle.std.specs.Global.{Global}
use Rattle.std.specs.List.{All}
use Rattle.geo_base.specs.Rects.{IsRect}
use Rattle.geo_base.specs.declared.shapes.Square.{Square}
use Rattle.rect_sets.specs.Rects.{covers}
use Rattle.geo_base.specs.declared.shapes.Rect.{Rect}
use Rattle.gate_shapes.specs.PartLists.{members}

-- a list for each class
pub record AreSortedOut (rects : List Rect) (class_of : List ℕ) (count : ℕ)
    (lists : List (Vec Rect Global)) : Type 0 where
  pub long : length lists ≡ count
  pub each : (x : ℕ) (list : Vec Rect Global) → slice_get lists x ≡ Some list
      → list.items ≡ members x class_of rects

abbrev pub HaveRects : List (Vec Rect Global) → Type 0
HaveRects lists =
    (x : ℕ) (list : Vec Rect Global) → slice_get lists x ≡ Some list → All IsRect list.items

-- a set for each list
pub record AreSetsOf (lists : List (Vec Rect Global)) (sets : List (List Rect)) : Type 0 where
  pub long : length sets ≡ length lists
  pub each : (x : ℕ) (list : Vec Rect Global) (set : List Rect) → slice_get lists x ≡ Some list
      → slice_get sets x ≡ Some set → (q : Square) → covers set q ≡ covers list.items q
