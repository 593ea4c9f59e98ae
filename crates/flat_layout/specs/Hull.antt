-- The hull of a cell: the least range of x and of y that holds what stands in and below it.
use Rattle.std.specs.Prelude.{◌≡◌, ◌⊎◌, ◌≤ℤ◌, ◌<ℤ◌, ◌+ℤ◌, pos, ℕ, List, [], ◌∷◌, Option, Some, None}
use Rattle.geo_base.specs.Motions.{moved_point}
use Rattle.geo_base.specs.declared.layer.LayerKey.{LayerKey}
use Rattle.geo_base.specs.declared.shapes.Point.{Point}
use Rattle.geo_base.specs.declared.shapes.Rect.{Rect}
use Rattle.geo_base.specs.declared.shapes.Square.{Square}
use Rattle.flat_layout.specs.Layout.{Design, Place, Text, HasText, IsOwn, IsPlaced}
use Rattle.flat_layout.specs.Plane.{IsCorner}

-- a path takes a point of its end to a point of its start
abbrev pub TakesPoint : Design → ℕ → List ℕ → ℕ → Point → Point → Type 0
TakesPoint d from [] to s q = (from ≡ to) × (s ≡ q)
TakesPoint d from (k ∷ ks) to s q = (p : Place) × IsPlaced d from k p × (r : Point)
    × TakesPoint d p.cell ks to s r × (moved_point p.motion r ≡ q)

-- a point of the cell itself: a corner of an own square, a text's point, the origin of a placement
abbrev pub IsOwnPoint : Design → ℕ → Point → Type 0
IsOwnPoint d cell p = ((key : LayerKey) × (q : Square) × IsOwn d cell key q × IsCorner p q)
    ⊎ (((text : Text) × HasText d cell text × (text.at ≡ p))
    ⊎ ((k : ℕ) × (place : Place) × IsPlaced d cell k place × (place.motion.dx ≡ p.x)
    × (place.motion.dy ≡ p.y)))

-- the image of a point of a cell at or below this one
pub record IsHullPoint (d : Design) (cell : ℕ) (p : Point) : Type 0 where
  pub path : List ℕ
  pub end : ℕ
  pub point : Point
  pub takes : TakesPoint d cell path end point p
  pub own : IsOwnPoint d end point

-- hull points lie on both sides of the square, or within n of it; a hull without a square grows to
-- nothing
pub record IsInHull (d : Design) (cell n : ℕ) (q : Square) : Type 0 where
  pub west : (a : Point) × IsHullPoint d cell a × (a.x ≤ℤ (q.x +ℤ pos n))
  pub east : (a : Point) × IsHullPoint d cell a × ((q.x +ℤ pos 1) ≤ℤ (a.x +ℤ pos n))
  pub south : (a : Point) × IsHullPoint d cell a × (a.y ≤ℤ (q.y +ℤ pos n))
  pub north : (a : Point) × IsHullPoint d cell a × ((q.y +ℤ pos 1) ≤ℤ (a.y +ℤ pos n))
  pub wide : (a b : Point) × IsHullPoint d cell a × IsHullPoint d cell b × (a.x <ℤ b.x)
  pub tall : (a b : Point) × IsHullPoint d cell a × IsHullPoint d cell b × (a.y <ℤ b.y)

-- the least rectangle that holds all hull points
pub record IsHullRect (d : Design) (cell : ℕ) (h : Rect) : Type 0 where
  pub wide : h.x1 <ℤ h.x2
  pub tall : h.y1 <ℤ h.y2
  pub holds : (p : Point) → IsHullPoint d cell p → (h.x1 ≤ℤ p.x) × (p.x ≤ℤ h.x2) × (h.y1 ≤ℤ p.y)
      × (p.y ≤ℤ h.y2)
  pub west : (p : Point) × IsHullPoint d cell p × (p.x ≡ h.x1)
  pub east : (p : Point) × IsHullPoint d cell p × (p.x ≡ h.x2)
  pub south : (p : Point) × IsHullPoint d cell p × (p.y ≡ h.y1)
  pub north : (p : Point) × IsHullPoint d cell p × (p.y ≡ h.y2)

-- the hull of a cell: none where it holds no square
abbrev pub IsHullOf : Design → ℕ → Option Rect → Type 0
IsHullOf d cell None = (q : Square) → IsInHull d cell 0 q → ⊥
IsHullOf d cell (Some h) = IsHullRect d cell h
