-- The four sides of bounds, each as a least number.
use Rattle.std.specs.Prelude.{◌≡◌, ◌⊎◌, ℕ, ◌<◌, ◌^◌, ℤ, pos, ◌-ℤ◌, ◌≤ℤ◌, List, Option, Some, None}
use Rattle.std.specs.Prelude.{slice_get}
use Rattle.geo_base.specs.Near.{IsWithin}
use Rattle.geo_base.specs.declared.shapes.Point.{Point}
use Rattle.cell_graph.specs.declared.bounds.Bounds.{Bounds}

pub data Side : Type 0 where
  Left : Side
  Low : Side
  Right : Side
  High : Side

-- how far a point stands from a side; right and high sides count downward
abbrev pub value : Side → Point → ℤ
value Left p = p.x
value Low p = p.y
value Right p = pos 0 -ℤ p.x
value High p = pos 0 -ℤ p.y

abbrev pub side_of : Side → Bounds → ℤ
side_of Left b = b.x1
side_of Low b = b.y1
side_of Right b = pos 0 -ℤ b.x2
side_of High b = pos 0 -ℤ b.y2

-- the bounds hold the point
abbrev pub Holds : Option Bounds → Point → Type 0
Holds None p = ⊥
Holds (Some b) p = (s : Side) → side_of s b ≤ℤ value s p

abbrev pub IsSideOf : Side → Option Bounds → ℤ → Type 0
IsSideOf s None z = ⊥
IsSideOf s (Some b) z = side_of s b ≡ z

-- the least bounds that hold the old ones and the points of Q
pub record Widens (old : Option Bounds) (Q : Point → Type 0) (new : Option Bounds) : Type 0 where
  pub kept : (p : Point) → Holds old p → Holds new p
  pub holds : (p : Point) → Q p → Holds new p
  pub sides : (s : Side) (b : Bounds) → new ≡ Some b → IsSideOf s old (side_of s b)
      ⊎ ((q : Point) × Q q × (value s q ≡ side_of s b))

-- one of the first n items has the point
abbrev pub AmongFirst : {A : Type 0} → (A → Point → Type 0) → List A → ℕ → Point → Type 0
AmongFirst {A} P items n p = (k : ℕ) × (x : A) × (k < n) × (slice_get items k ≡ Some x) × P x p

-- some item has the point
abbrev pub Among : {A : Type 0} → (A → Point → Type 0) → List A → Point → Type 0
Among {A} P items p = (k : ℕ) × (x : A) × (slice_get items k ≡ Some x) × P x p

-- the sides lie within plus or minus 2^36
pub record AreNear (b : Bounds) : Type 0 where
  pub x1 : IsWithin (2 ^ 36) b.x1
  pub y1 : IsWithin (2 ^ 36) b.y1
  pub x2 : IsWithin (2 ^ 36) b.x2
  pub y2 : IsWithin (2 ^ 36) b.y2

abbrev pub AreNearIfAny : Option Bounds → Type 0
AreNearIfAny None = Unit {0}
AreNearIfAny (Some b) = AreNear b

-- the two corners of bounds
abbrev pub low_corner : Bounds → Point
low_corner b = record { x = b.x1; y = b.y1 }

abbrev pub high_corner : Bounds → Point
high_corner b = record { x = b.x2; y = b.y2 }

abbrev pub IsCornerPoint : Option Bounds → Point → Type 0
IsCornerPoint None p = ⊥
IsCornerPoint (Some b) p = (p ≡ low_corner b) ⊎ (p ≡ high_corner b)
