-- Rectangles in order.
use Rattle.std.specs.Prelude.{◌≡◌, ◌⊎◌, ℕ, ◌+◌, ◌<◌, ◌≤ℤ◌, ◌<ℤ◌, Bool, ◌&&◌, List, [], ◌∷◌, ◌++◌}
use Rattle.std.specs.Prelude.{length, take, slice_index_or}
use Rattle.std.specs.Ordering.{int_eq}
use Rattle.rect_sets.specs.Rects.{IsOrdered, IsListed}
use Rattle.geo_base.specs.declared.shapes.Rect.{Rect}

-- two rectangles have one lower left corner
abbrev pub begins_with : Rect → Rect → Bool
begins_with a b = int_eq a.y1 b.y1 && int_eq a.x1 b.x1

-- at or before another in the order of y1, then x1
abbrev pub IsNotAfter : Rect → Rect → Type 0
IsNotAfter r s = (r.y1 <ℤ s.y1) ⊎ ((r.y1 ≡ s.y1) × (r.x1 ≤ℤ s.x1))

-- neighbours are in order
abbrev pub AreSortedRects : List Rect → Type 0
AreSortedRects rects = (k : ℕ) (d : Rect) → k + 1 < length rects
    → IsNotAfter (slice_index_or rects k d) (slice_index_or rects (k + 1) d)

-- the last of a list, if there is one
abbrev pub LastNotAfter : List Rect → Rect → Type 0
LastNotAfter rects r =
    (front : List Rect) (last : Rect) → rects ≡ front ++ last ∷ [] → IsNotAfter last r

-- an ordered list that a rectangle may be added to at the end
pub record IsRoom (rects : List Rect) (r : Rect) : Type 0 where
  pub ordered : IsOrdered rects
  pub last : LastNotAfter rects r

-- one of these begins where it does
pub record HasPlace (rects : List Rect) (r : Rect) : Type 0 where
  pub one : Rect
  pub listed : IsListed one rects
  pub same_y : one.y1 ≡ r.y1
  pub same_x : one.x1 ≡ r.x1

-- a rectangle was added, or the last one begins where it does
pub record Joins (old new : List Rect) (r : Rect) : Type 0 where
  pub ordered : IsOrdered new
  pub last : (s : Rect) → IsNotAfter r s → LastNotAfter new s
  pub from : (q : Rect) → IsListed q new → IsListed q old ⊎ (q ≡ r)
  pub kept : (q : Rect) → IsListed q old → IsListed q new
  pub place : HasPlace new r

-- ordered, with nothing new, and each keeps its place
pub record IsInOrder (rects out : List Rect) : Type 0 where
  pub ordered : IsOrdered out
  pub from : (q : Rect) → IsListed q out → IsListed q rects
  pub place : (q : Rect) → IsListed q rects → HasPlace out q

-- the same of those that were seen
pub record OrderSoFar (sorted : List Rect) (seen : ℕ) (out : List Rect) : Type 0 where
  pub ordered : IsOrdered out
  pub last : (d : Rect) → seen < length sorted → LastNotAfter out (slice_index_or sorted seen d)
  pub from : (q : Rect) → IsListed q out → IsListed q (take seen sorted)
  pub place : (q : Rect) → IsListed q (take seen sorted) → HasPlace out q
