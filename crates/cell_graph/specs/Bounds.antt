-- Least ranges, point by point.
use Rattle.std.specs.Prelude.{◌≡◌, ◌⊎◌, ℤ, ◌≤ℤ◌, Option, Some, None}
use Rattle.geo_base.specs.declared.shapes.Point.{Point}
use Rattle.geo_base.specs.declared.shapes.Rect.{Rect}
use Rattle.cell_graph.specs.declared.bounds.Bounds.{Bounds}

pub record IsLow (a b r : ℤ) : Type 0 where
  pub left : r ≤ℤ a
  pub right : r ≤ℤ b
  pub one : (r ≡ a) ⊎ (r ≡ b)

pub record IsHigh (a b r : ℤ) : Type 0 where
  pub left : a ≤ℤ r
  pub right : b ≤ℤ r
  pub one : (r ≡ a) ⊎ (r ≡ b)

-- all four sides are the point's
pub record IsJust (p : Point) (r : Bounds) : Type 0 where
  pub left_is : r.x1 ≡ p.x
  pub low_is : r.y1 ≡ p.y
  pub right_is : r.x2 ≡ p.x
  pub high_is : r.y2 ≡ p.y

pub record IsWider (b : Bounds) (p : Point) (r : Bounds) : Type 0 where
  pub left_is : IsLow b.x1 p.x r.x1
  pub low_is : IsLow b.y1 p.y r.y1
  pub right_is : IsHigh b.x2 p.x r.x2
  pub high_is : IsHigh b.y2 p.y r.y2

abbrev pub IsWith : Option Bounds → Point → Bounds → Type 0
IsWith None p r = IsJust p r
IsWith (Some b) p r = IsWider b p r

abbrev pub range_of : Bounds → Rect
range_of b = record { x1 = b.x1; y1 = b.y1; x2 = b.x2; y2 = b.y2 }
