-- What the elements of an array bring up from the placed cell.
use Rattle.std.specs.Prelude.{◌≡◌, ℕ, ◌<◌, true, List}
use Rattle.geo_base.specs.Motions.{moved_square}
use Rattle.geo_base.specs.Rects.{has}
use Rattle.geo_base.specs.declared.shapes.Rect.{Rect}
use Rattle.geo_base.specs.declared.shapes.Square.{Square}
use Rattle.rect_sets.specs.Rects.{covers}
use Rattle.cell_graph.specs.declared.cells.Place.{Place}
use Rattle.cell_graph.specs.Linked.{motion_at}

-- what was covered still is
abbrev pub Grows : List Rect → List Rect → Type 0
Grows old new = (q : Square) → covers old q ≡ true → covers new q ≡ true

-- an array's images of what the rectangles cover of the placed cell's frame are covered, where they
-- lie in the window
abbrev pub Brings : Place → Rect → List Rect → Rect → List Rect → Type 0
Brings p below rects window out = (row column : ℕ) (s : Square) → row < p.rows
    → column < p.columns → has below s ≡ true
    → covers rects s ≡ true → has window (moved_square (motion_at p row column) s) ≡ true
    → covers out (moved_square (motion_at p row column) s) ≡ true
