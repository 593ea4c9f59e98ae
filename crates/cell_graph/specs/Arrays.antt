-- The points that an array of a placed cell brings to a hull.
use Rattle.std.specs.Prelude.{◌≡◌, ◌⊎◌, ℕ, ◌<◌, ◌^◌, ℤ, pos, ◌+ℤ◌, ◌*ℤ◌, ◌≤ℤ◌, Option, Some, None}
use Rattle.geo_base.specs.Motions.{moved_point, turned}
use Rattle.geo_base.specs.Near.{IsWithin}
use Rattle.geo_base.specs.declared.motion.Turn.{Turn}
use Rattle.geo_base.specs.declared.shapes.Point.{Point}
use Rattle.cell_graph.specs.declared.cells.Place.{Place}
use Rattle.cell_graph.specs.Linked.{motion_at}
use Rattle.cell_graph.specs.declared.arrays.Interval.{Interval}
use Rattle.cell_graph.specs.declared.arrays.ElementOrigins.{ElementOrigins}
use Rattle.cell_graph.specs.declared.bounds.Bounds.{Bounds}
use Rattle.cell_graph.specs.Drafts.{IsOrigin}

-- the least range of the first n multiples of a step
pub record IsReach (step : ℤ) (n : ℕ) (r : Interval) : Type 0 where
  pub low : (k : ℕ) × (k < n) × (r.low ≡ pos k *ℤ step)
  pub high : (k : ℕ) × (k < n) × (r.high ≡ pos k *ℤ step)
  pub holds : (k : ℕ) → k < n → (r.low ≤ℤ (pos k *ℤ step)) × ((pos k *ℤ step) ≤ℤ r.high)
  pub low_near : IsWithin (2 ^ 53) r.low
  pub high_near : IsWithin (2 ^ 53) r.high

-- two of them are too far from one another
abbrev pub IsTooLong : ℤ → ℕ → Type 0
IsTooLong step n = (1 < n) × (IsWithin (2 ^ 37) step → ⊥)

abbrev pub IsReachOr : ℤ → ℕ → Option Interval → Type 0
IsReachOr step n None = IsTooLong step n
IsReachOr step n (Some r) = IsReach step n r

-- an element's origin along one axis
abbrev pub origin : ℤ → ℤ → ℤ → ℕ → ℕ → ℤ
origin start column_step row_step row column =
    (start +ℤ (pos column *ℤ column_step)) +ℤ (pos row *ℤ row_step)

-- some element's origin has P
abbrev pub SomeOrigin : ℤ → ℤ → ℤ → ℕ → ℕ → (ℤ → Type 0) → Type 0
SomeOrigin start column_step row_step rows columns P = (row : ℕ) × (column : ℕ) × (row < rows)
    × (column < columns) × P (origin start column_step row_step row column)

-- the least range of the elements' origins along one axis
pub record AreOrigins (start column_step row_step : ℤ) (rows columns : ℕ)
    (r : Interval) : Type 0 where
  pub low : SomeOrigin start column_step row_step rows columns (λ z. z ≡ r.low)
  pub high : SomeOrigin start column_step row_step rows columns (λ z. z ≡ r.high)
  pub holds : (row column : ℕ) → row < rows → column < columns
      → (r.low ≤ℤ origin start column_step row_step row column)
      × (origin start column_step row_step row column ≤ℤ r.high)
  pub low_near : IsWithin (2 ^ 36) r.low
  pub high_near : IsWithin (2 ^ 36) r.high

-- or one that is out of range
abbrev pub AreOriginsOr : ℤ → ℤ → ℤ → ℕ → ℕ → Option Interval → Type 0
AreOriginsOr start column_step row_step rows columns None =
    SomeOrigin start column_step row_step rows columns (λ z. IsWithin (2 ^ 36) z → ⊥)
AreOriginsOr start column_step row_step rows columns (Some r) =
    AreOrigins start column_step row_step rows columns r

-- the origin of the plane, or the turned image of a point of P
abbrev pub TurnedPoint : Turn → (Point → Type 0) → Point → Type 0
TurnedPoint turn P t = ((t.x ≡ pos 0) × (t.y ≡ pos 0)) ⊎ ((q : Point) × P q × (turned turn q ≡ t))

-- the origin of an element, or its image of a point of P
abbrev pub ArrayPoint : Place → (Point → Type 0) → Point → Type 0
ArrayPoint place P p = (row : ℕ) × (column : ℕ) × (row < place.rows) × (column < place.columns)
    × (IsOrigin (motion_at place row column) p
    ⊎ ((q : Point) × P q × (moved_point (motion_at place row column) q ≡ p)))

-- the origin of some element is out of range
abbrev pub HasFarOrigin : Place → Type 0
HasFarOrigin place =
    SomeOrigin place.motion.dx place.column_step.x place.row_step.x place.rows place.columns
    (λ z. IsWithin (2 ^ 36) z → ⊥)
    ⊎ SomeOrigin place.motion.dy place.column_step.y place.row_step.y place.rows place.columns
    (λ z. IsWithin (2 ^ 36) z → ⊥)

-- the least ranges of x and of y of all origins
pub record AreOriginsOf (place : Place) (o : ElementOrigins) : Type 0 where
  pub x : AreOrigins place.motion.dx place.column_step.x place.row_step.x place.rows place.columns
      o.x
  pub y : AreOrigins place.motion.dy place.column_step.y place.row_step.y place.rows place.columns
      o.y

pub record IsNearInterval (r : Interval) : Type 0 where
  pub low : IsWithin (2 ^ 36) r.low
  pub high : IsWithin (2 ^ 36) r.high

-- the sums of the ends
pub record IsSpread (b : Bounds) (x y : Interval) (r : Bounds) : Type 0 where
  pub left_is : r.x1 ≡ b.x1 +ℤ x.low
  pub low_is : r.y1 ≡ b.y1 +ℤ y.low
  pub right_is : r.x2 ≡ b.x2 +ℤ x.high
  pub high_is : r.y2 ≡ b.y2 +ℤ y.high
