-- Rectangles on either side of a level line, those of one x range put together.
use Rattle.std.specs.Prelude.{◌≡◌, ◌⊎◌, List}
use Rattle.std.specs.Ordering.{is_lt, ordering_then, int_cmp}
use Rattle.std.specs.declared.cmp.Ordering.{Ordering}
use Rattle.std.specs.List.Sorted.{IsSortedBy}
use Rattle.geo_base.specs.declared.shapes.Rect.{Rect}
use Rattle.rect_sets.specs.Rects.{IsListed}

-- by x1, then x2
abbrev pub range_cmp : Rect → Rect → Ordering
range_cmp a b = ordering_then (int_cmp a.x1 b.x1) (int_cmp a.x2 b.x2)

abbrev pub AreSortedRanges : List Rect → Type 0
AreSortedRanges rects = IsSortedBy (λ a b. is_lt (range_cmp a b)) rects

-- one of the list has the x range of the rectangle
pub record HasRangeOf (rects : List Rect) (r one : Rect) : Type 0 where
  pub listed : IsListed one rects
  pub x1 : one.x1 ≡ r.x1
  pub x2 : one.x2 ≡ r.x2

abbrev pub HasRange : List Rect → Rect → Type 0
HasRange rects r = (one : Rect) × HasRangeOf rects r one

-- a rectangle up to the top of another
abbrev pub up_to : Rect → Rect → Rect
up_to p q = record { x1 = p.x1; y1 = p.y1; x2 = p.x2; y2 = q.y2 }

-- a rectangle up to the top of one of its range, or as it is where there is none
abbrev pub GoesOn : List Rect → Rect → Rect → Type 0
GoesOn above p r = ((q : Rect) × HasRangeOf above p q × (r ≡ up_to p q))
    ⊎ ((HasRange above p → ⊥) × (r ≡ p))

-- it is one of those below the line, as far up as that goes
pub record IsGrownFrom (above below : List Rect) (r : Rect) : Type 0 where
  pub one : Rect
  pub listed : IsListed one below
  pub is : GoesOn above one r

-- the list has it as far up as it goes
pub record IsGrownIn (above out : List Rect) (p : Rect) : Type 0 where
  pub one : Rect
  pub listed : IsListed one out
  pub is : GoesOn above p one

-- exactly those below the line, as far up as they go
pub record AreGrown (above below out : List Rect) : Type 0 where
  pub from : (r : Rect) → IsListed r out → IsGrownFrom above below r
  pub each : (p : Rect) → IsListed p below → IsGrownIn above out p

-- those above the line whose range none below it has were added
pub record AddsOthers (below above old new : List Rect) : Type 0 where
  pub from : (r : Rect) → IsListed r new
      → IsListed r old ⊎ (IsListed r above × (HasRange below r → ⊥))
  pub kept : (r : Rect) → IsListed r old → IsListed r new
  pub each : (q : Rect) → IsListed q above → HasRange below q ⊎ IsListed q new

-- exactly those below the line, as far up as they go, and the others above it
pub record AreJoinedAcross (below above out : List Rect) : Type 0 where
  pub from : (r : Rect) → IsListed r out
      → IsGrownFrom above below r ⊎ (IsListed r above × (HasRange below r → ⊥))
  pub low : (p : Rect) → IsListed p below → IsGrownIn above out p
  pub high : (q : Rect) → IsListed q above → HasRange below q ⊎ IsListed q out
