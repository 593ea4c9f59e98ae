-- The rectangles of a list in another order, each with its position.
use Rattle.std.specs.Prelude.{◌≡◌, ℕ, pos, List, [], ◌∷◌, Some, ◌==◌, if◌then◌else◌, length, map}
use Rattle.std.specs.Prelude.{slice_get}
use Rattle.std.specs.List.{All, filter, range_with_len}
use Rattle.std.specs.List.Sorted.{IsPermutation}
use Rattle.geo_base.specs.declared.shapes.Rect.{Rect}
use Rattle.geo_base.specs.Rects.{meets}
use Rattle.tile_index.specs.declared.entries.Entry.{Entry}
use Rattle.tile_index.specs.declared.entries.Stop.{Stop}

-- the first entry of a position has its rectangle
abbrev pub rect_at : List Entry → ℕ → Rect
rect_at [] k = record { x1 = pos 0; y1 = pos 0; x2 = pos 0; y2 = pos 0 }
rect_at (e ∷ entries) k = if e.position == k then e.rect else rect_at entries k

-- the list of the rectangles in the order of their positions
abbrev pub rects_of : List Entry → List Rect
rects_of entries = map (rect_at entries) (range_with_len 0 (length entries))

-- each position of the list has one entry, with the rectangle that stands there
pub record AreEntries (rects : List Rect) (entries : List Entry) : Type 0 where
  pub each : All (λ e. slice_get rects e.position ≡ Some e.rect) entries
  pub once : IsPermutation (range_with_len 0 (length rects)) (map (λ e. e.position) entries)

abbrev pub positions_of : List Stop → List ℕ
positions_of stops = map (λ stop. stop.position) stops

-- a stop for each position, in the order of the list
abbrev pub AreInOrder : List Rect → List Stop → Type 0
AreInOrder rects stops = positions_of stops ≡ range_with_len 0 (length rects)

-- the same in any order
abbrev pub ArePlaced : List Rect → List Stop → Type 0
ArePlaced rects stops = IsPermutation (range_with_len 0 (length rects)) (positions_of stops)

-- the positions of the entries that share a square with the window
abbrev pub hits : Rect → List Entry → List ℕ
hits w entries = map (λ e. e.position) (filter (λ e. meets e.rect w) entries)
