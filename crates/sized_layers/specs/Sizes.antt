-- How a set of unit squares is grown or shrunk by a square of side 2n + 1: first along its rows, then
-- along its columns.
use Rattle.std.specs.Prelude.{◌≡◌, ◌↔◌, ℕ, suc, ℤ, pos, negsuc, ◌+ℤ◌, ◌-ℤ◌, ◌≤ℤ◌, ◌<ℤ◌, int_lt}
use Rattle.std.specs.Prelude.{true, false, List, [], ◌∷◌, if◌then◌else◌}
use Rattle.geo_base.specs.Near.{IsWithin}
use Rattle.geo_base.specs.declared.shapes.Rect.{Rect}
use Rattle.geo_base.specs.declared.shapes.Square.{Square}
use Rattle.rect_sets.specs.Rects.{covers}
use Rattle.flat_layout.specs.Plane.{IsReachedBy, IsHeldBy}

-- how far a layer may be grown or shrunk
abbrev pub IsSize : ℤ → Type 0
IsSize d = IsWithin 10000 d

-- to shrink a set is to grow what it leaves out
abbrev pub ShrinkLaw : Type 0
ShrinkLaw = (n : ℕ) (rects : List Rect) (p : Square) → IsHeldBy n (λ q. covers rects q ≡ true) p
    ↔ (IsReachedBy n (λ q. covers rects q ≡ false) p → ⊥)

-- how much further out a sized set may reach
abbrev pub growth : ℤ → ℕ
growth (pos n) = n
growth (negsuc n) = 0

-- in one row, their x differ by at most n
pub record AreBeside (n : ℕ) (p q : Square) : Type 0 where
  pub left : q.x ≤ℤ (p.x +ℤ pos n)
  pub right : p.x ≤ℤ (q.x +ℤ pos n)
  pub row : p.y ≡ q.y

pub record IsReachedAlong (n : ℕ) (set : Square → Type 0) (p : Square) : Type 0 where
  pub square : Square
  pub beside : AreBeside n square p
  pub has : set square

-- the same in p's row alone
abbrev pub IsSizedAlong : ℤ → (Square → Type 0) → Square → Type 0
IsSizedAlong (pos n) set p = IsReachedAlong n set p
IsSizedAlong (negsuc n) set p = (q : Square) → AreBeside (suc n) q p → set q

-- x and y exchanged
abbrev pub flip : Square → Square
flip s = record { x = s.y; y = s.x }

-- a rectangle with its left and right sides moved apart by d
abbrev pub sized_rect : ℤ → Rect → Rect
sized_rect d r = record { x1 = r.x1 -ℤ d; y1 = r.y1; x2 = r.x2 +ℤ d; y2 = r.y2 }

-- those of which a square is left
abbrev pub sized_rects : ℤ → List Rect → List Rect
sized_rects d [] = []
sized_rects d (r ∷ rects) =
    if int_lt (r.x1 -ℤ d) (r.x2 +ℤ d) then sized_rect d r ∷ sized_rects d rects
    else sized_rects d rects

-- all that the square covers is within n of the origin
pub record IsSquareWithin (n : ℕ) (s : Square) : Type 0 where
  pub left : (pos 0 -ℤ pos n) ≤ℤ s.x
  pub right : s.x <ℤ pos n
  pub low : (pos 0 -ℤ pos n) ≤ℤ s.y
  pub high : s.y <ℤ pos n

-- and so of each square of a set
abbrev pub IsSetWithin : ℕ → List Rect → Type 0
IsSetWithin n rects = (s : Square) → covers rects s ≡ true → IsSquareWithin n s
