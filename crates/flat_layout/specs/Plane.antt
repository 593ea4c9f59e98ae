-- Unit squares beside and around each other, and in rectangles; sets of them grown and shrunk.
use Rattle.std.specs.Prelude.{◌≡◌, ◌⊎◌, ℕ, suc, ℤ, ◌≤ℤ◌, ◌<ℤ◌, pos, negsuc, ◌+ℤ◌}
use Rattle.geo_base.specs.declared.shapes.Point.{Point}
use Rattle.geo_base.specs.declared.shapes.Rect.{Rect}
use Rattle.geo_base.specs.declared.shapes.Square.{Square}

-- the rectangle covers the square
abbrev pub IsIn : Square → Rect → Type 0
IsIn s r = (r.x1 ≤ℤ s.x) × (s.x <ℤ r.x2) × (r.y1 ≤ℤ s.y) × (s.y <ℤ r.y2)

-- the squares share an edge
abbrev pub SharesEdge : Square → Square → Type 0
SharesEdge p q = ((p.x ≡ q.x) × ((p.y +ℤ pos 1 ≡ q.y) ⊎ (q.y +ℤ pos 1 ≡ p.y)))
    ⊎ ((p.y ≡ q.y) × ((p.x +ℤ pos 1 ≡ q.x) ⊎ (q.x +ℤ pos 1 ≡ p.x)))

-- they are one square or share an edge: a common corner doesn't join
abbrev pub IsNear : Square → Square → Type 0
IsNear p q = (p ≡ q) ⊎ SharesEdge p q

-- their x and their y differ by at most n
pub record AreWithin (n : ℕ) (p q : Square) : Type 0 where
  pub left : q.x ≤ℤ (p.x +ℤ pos n)
  pub right : p.x ≤ℤ (q.x +ℤ pos n)
  pub low : q.y ≤ℤ (p.y +ℤ pos n)
  pub high : p.y ≤ℤ (q.y +ℤ pos n)

-- some square of the set lies within n of q: q lies in the set's sum with a square of side 2n + 1
pub record IsReachedBy (n : ℕ) (set : Square → Type 0) (q : Square) : Type 0 where
  pub square : Square
  pub within : AreWithin n square q
  pub has : set square

-- the set has all squares within n of q
abbrev pub IsHeldBy : ℕ → (Square → Type 0) → Square → Type 0
IsHeldBy n set q = (z : Square) → AreWithin n z q → set z

-- q lies in the set grown by so much on all sides, or shrunk by so much below 0
abbrev pub IsSized : ℤ → (Square → Type 0) → Square → Type 0
IsSized (pos n) set q = IsReachedBy n set q
IsSized (negsuc n) set q = IsHeldBy (suc n) set q

-- they are one square or share an edge or a corner
abbrev pub IsAround : Square → Square → Type 0
IsAround = AreWithin 1

-- p comes before q in the order of squares: by y, then x
abbrev pub IsSquareBefore : Square → Square → Type 0
IsSquareBefore p q = (p.y <ℤ q.y) ⊎ ((p.y ≡ q.y) × (p.x <ℤ q.x))

-- the point is a corner of the square
pub record IsCorner (p : Point) (q : Square) : Type 0 where
  pub x : (p.x ≡ q.x) ⊎ (p.x ≡ q.x +ℤ pos 1)
  pub y : (p.y ≡ q.y) ⊎ (p.y ≡ q.y +ℤ pos 1)
