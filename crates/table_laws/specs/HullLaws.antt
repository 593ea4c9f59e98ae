-- Hulls by hull points, and what lies in them.
use Rattle.std.specs.Prelude.{◌↔◌, ◌≤ℤ◌, ◌<ℤ◌, ◌+ℤ◌, ◌-ℤ◌, pos, ℕ, List, None}
use Rattle.geo_base.specs.declared.layer.LayerKey.{LayerKey}
use Rattle.geo_base.specs.declared.shapes.Rect.{Rect}
use Rattle.geo_base.specs.declared.shapes.Square.{Square}
use Rattle.flat_layout.specs.Hull.{IsHullOf, IsHullRect, IsInHull}
use Rattle.flat_layout.specs.Layout.{Design, InFlatInput}
use Rattle.flat_layout.specs.Seeds.{IsInReach}

-- the square lies in the rectangle grown by n on each side
pub record IsInGrown (n : ℕ) (h : Rect) (q : Square) : Type 0 where
  pub left : (h.x1 -ℤ pos n) ≤ℤ q.x
  pub right : q.x <ℤ (h.x2 +ℤ pos n)
  pub low : (h.y1 -ℤ pos n) ≤ℤ q.y
  pub high : q.y <ℤ (h.y2 +ℤ pos n)

-- a cell's grown hull is its hull's rectangle, grown
abbrev pub GrownLaw : Type 0
GrownLaw = (d : Design) (cell n : ℕ) (h : Rect) (q : Square) → IsHullRect d cell h
    → IsInHull d cell n q ↔ IsInGrown n h q

-- and where it holds no square, it grows to nothing
abbrev pub NoHullLaw : Type 0
NoHullLaw = (d : Design) (cell n : ℕ) (q : Square) → IsHullOf d cell None → IsInHull d cell n q → ⊥

-- flat squares lie in the hull
abbrev pub FlatHullLaw : Type 0
FlatHullLaw = (d : Design) (cell : ℕ) (key : LayerKey) (q : Square) → InFlatInput d cell key q
    → IsInHull d cell 0 q

-- what lies within n of one lies in the hull grown by n, so that the disturbed squares of such a
-- window are enough for what lies so near
abbrev pub ReachHullLaw : Type 0
ReachHullLaw = (d : Design) (keys : List LayerKey) (n cell : ℕ) (q : Square)
    → IsInReach d keys n cell q → IsInHull d cell n q
