-- Finite sets of unit squares as lists of rectangles.
use Rattle.std.specs.Prelude.{◌≡◌, ◌↔◌, ◌⊎◌, ℤ, pos, ◌-ℤ◌, ◌≤ℤ◌, ◌<ℤ◌, Bool, true, false, List, []}
use Rattle.std.specs.Prelude.{◌∷◌}
use Rattle.std.specs.List.{All, list_any}
use Rattle.geo_base.specs.Rects.{has, IsRect}
use Rattle.geo_base.specs.declared.shapes.Rect.{Rect}
use Rattle.geo_base.specs.declared.shapes.Square.{Square}

-- whether one of the rectangles has the square
abbrev pub covers : List Rect → Square → Bool
covers rects s = list_any (λ r. has r s) rects

-- from a up to b is a longest run of the set in its row
pub record IsRun (set : Square → Bool) (y a b : ℤ) : Type 0 where
  pub some : a <ℤ b
  pub inside : (x : ℤ) → a ≤ℤ x → x <ℤ b → set (record { x = x; y = y }) ≡ true
  pub before : set (record { x = a -ℤ pos 1; y = y }) ≡ false
  pub after : set (record { x = b; y = y }) ≡ false

-- the rectangle has one longest run in each of its rows, and the rows below and above don't have it
pub record IsBlock (set : Square → Bool) (r : Rect) : Type 0 where
  pub some : r.y1 <ℤ r.y2
  pub rows : (y : ℤ) → r.y1 ≤ℤ y → y <ℤ r.y2 → IsRun set y r.x1 r.x2
  pub below : IsRun set (r.y1 -ℤ pos 1) r.x1 r.x2 → ⊥
  pub above : IsRun set r.y2 r.x1 r.x2 → ⊥

-- one rectangle comes before another in the order of y1, then x1
abbrev pub IsBelow : Rect → Rect → Type 0
IsBelow r s = (r.y1 <ℤ s.y1) ⊎ ((r.y1 ≡ s.y1) × (r.x1 <ℤ s.x1))

-- each comes before all behind it
abbrev pub AreAbove : Rect → List Rect → Type 0
AreAbove r [] = Unit {0}
AreAbove r (s ∷ rects) = IsBelow r s × AreAbove r rects

-- ordered by y1, then x1, and no two begin at one place
abbrev pub IsOrdered : List Rect → Type 0
IsOrdered [] = Unit {0}
IsOrdered (r ∷ rects) = AreAbove r rects × IsOrdered rects

-- the rectangle is in the list
abbrev pub IsListed : Rect → List Rect → Type 0
IsListed r [] = ⊥
IsListed r (s ∷ rects) = (r ≡ s) ⊎ IsListed r rects

-- The one list of the set that the rectangles cover. A rectangle is in the list exactly where, in
-- each of its rows, its x range is a maximal run of the set, and neither the row below nor the row
-- above has this same run. The list is ordered by y1, then x1.
pub record IsCanonical (rects : List Rect) : Type 0 where
  pub each : (r : Rect) → IsListed r rects ↔ IsBlock (covers rects) r
  pub ordered : IsOrdered rects

-- canonical lists that cover the same squares are one
abbrev pub OneListLaw : Type 0
OneListLaw = (a b : List Rect) → IsCanonical a → IsCanonical b
    → ((s : Square) → covers a s ≡ covers b s) → a ≡ b

-- each rectangle of a canonical list has squares
abbrev pub CanonicalLaw : Type 0
CanonicalLaw = (rects : List Rect) → IsCanonical rects → All IsRect rects
