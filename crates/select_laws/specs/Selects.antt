-- Selections: the regions of one name that are chosen by what they have with another, or by their
-- area.
use Rattle.std.specs.Prelude.{ℕ, ◌≤◌, ◌<◌, max, ◌++◌, Option, Some, None}
use Rattle.flat_layout.specs.Gates.{Geometry}
use Rattle.flat_layout.specs.Layers.{Formula, inputs, reach, InFlat}
use Rattle.flat_layout.specs.Layout.{Design}
use Rattle.flat_layout.specs.Parts.{Counts, IsCloseTo}
use Rattle.geo_base.specs.declared.shapes.Square.{Square}
use Rattle.flat_layout.specs.Parts.{Joint, InRegion}

-- what is asked of a region and another set
pub data Ask : Type 0 where
  Interacting : Ask
  Overlapping : Ask
  Inside : Ask
  Outside : Ask
  WithArea : (low : ℕ) (high : Option ℕ) → Ask

abbrev pub IsBelow : ℕ → Option ℕ → Type 0
IsBelow n None = Unit {0}
IsBelow n (Some high) = n < high

-- a square of the set lies in the region or touches it, at a corner too; one lies in it; all of the
-- region lies in the set, or nothing; the region has so many squares, from low on and below high
abbrev pub Has : Ask → (Square → Type 0) → (Square → Type 0) → Type 0
Has Interacting region other = (q : Square) × IsCloseTo region q × other q
Has Overlapping region other = (q : Square) × region q × other q
Has Inside region other = (q : Square) → region q → other q
Has Outside region other = (q : Square) → region q → other q → ⊥
Has (WithArea low high) region other = (n : ℕ) × Counts region n × (low ≤ n) × IsBelow n high

-- those regions are chosen, or all others (`not_`)
pub data Side : Type 0 where
  Those : Side
  Others : Side

abbrev pub OnSide : Side → Type 0 → Type 0
OnSide Those A = A
OnSide Others A = A → ⊥

-- a selection: the name whose regions are asked, the other name, what is asked
pub record Select : Type 0 where
  pub joint : Joint
  pub region : Formula
  pub other : Formula
  pub ask : Ask
  pub side : Side

-- what a selection reads, as a device rule's geometry
abbrev pub sight : Select → Geometry
sight x = record {
  region = x.region;
  keys = inputs x.region ++ inputs x.other;
  reach = max (reach x.region) (reach x.other);
}

-- the region of the cell's flat squares of the name that has s
abbrev pub region_at : Design → Select → ℕ → Square → Square → Type 0
region_at d x cell s = InRegion x.joint (InFlat d cell x.region) s

-- its region is chosen
abbrev pub IsChosen : Design → Select → ℕ → Square → Type 0
IsChosen d x cell s = OnSide x.side (Has x.ask (region_at d x cell s) (InFlat d cell x.other))

-- a flat square of the selection: one of the name's whose region is chosen
pub record IsSelected (d : Design) (x : Select) (cell : ℕ) (s : Square) : Type 0 where
  pub is : InFlat d cell x.region s
  pub chosen : IsChosen d x cell s
