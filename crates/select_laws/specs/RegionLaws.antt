-- Regions of a placed cell and of its parent.
use Rattle.std.specs.Prelude.{◌≡◌, ◌↔◌, ℕ}
use Rattle.flat_layout.specs.Gates.{Geometry, IsSoundGeometry}
use Rattle.flat_layout.specs.Layers.{InFlat}
use Rattle.flat_layout.specs.Layout.{Place, Design, IsHeight, IsPlaced, IsReached}
use Rattle.geo_base.specs.Motions.{moved_square}
use Rattle.geo_base.specs.declared.shapes.Square.{Square}
use Rattle.flat_layout.specs.Parts.{Joint}
use Rattle.select_laws.specs.Whole.{RegionAt, IsByRegion, IsWhole, IsWholeBelow, IsFoundRegion}
use Rattle.select_laws.specs.Whole.{ArePartedRegions}

-- the image of a whole region is a whole region, with what is round it
pub record IsRegionKept (d : Design) (j : Joint) (g : Geometry) (cell : ℕ) (p : Place)
    (s : Square) : Type 0 where
  pub whole : IsWhole d j g cell (moved_square p.motion s)
  pub squares : (q : Square)
      → RegionAt d j g cell (moved_square p.motion s) (moved_square p.motion q)
      ↔ RegionAt d j g p.cell s q
  pub close : (q : Square)
      → IsByRegion d j g cell (moved_square p.motion s) (moved_square p.motion q)
      ↔ IsByRegion d j g p.cell s q

abbrev pub KeptRegionLaw : Type 0
KeptRegionLaw = (d : Design) (j : Joint) (g : Geometry) (cell k : ℕ) (p : Place) (s : Square)
    → IsSoundGeometry g → IsReached d cell → IsPlaced d cell k p → IsWhole d j g p.cell s
    → IsRegionKept d j g cell p s

-- a region is the image of whole ones through one placement at most
abbrev pub OneRegionPlaceLaw : Type 0
OneRegionPlaceLaw = (d : Design) (j : Joint) (g : Geometry) (cell : ℕ) (s : Square)
    → IsSoundGeometry g → IsReached d cell → (a b : IsWholeBelow d j g cell s) → a.number ≡ b.number

-- each whole region is the image of one region of a cell's own along one path
abbrev pub EachRegionLaw : Type 0
EachRegionLaw = (d : Design) (j : Joint) (g : Geometry) (height : ℕ → ℕ) → IsSoundGeometry g
    → IsHeight d height → ArePartedRegions d j g
    → (cell : ℕ) (s : Square) → IsReached d cell → IsWhole d j g cell s
    → (f : IsFoundRegion d j g cell s) × ((h : IsFoundRegion d j g cell s) → (h.path ≡ f.path)
    × RegionAt d j g f.end f.square h.square)

-- each flat region of the top is whole
abbrev pub TopRegionLaw : Type 0
TopRegionLaw = (d : Design) (j : Joint) (g : Geometry) (height : ℕ → ℕ) → IsHeight d height
    → (s : Square) → InFlat d d.top g.region s → IsWhole d j g d.top s
