-- Regions that are whole in a cell, and the lowest cells in which they are.
use Rattle.std.specs.Prelude.{◌⊎◌, ℕ, List}
use Rattle.flat_layout.specs.Gates.{Geometry}
use Rattle.flat_layout.specs.Layers.{InFlat, IsStirred}
use Rattle.flat_layout.specs.Layout.{Place, Design, IsPlaced, IsReached, Takes}
use Rattle.flat_layout.specs.Parts.{IsCloseTo}
use Rattle.geo_base.specs.Motions.{moved_square}
use Rattle.geo_base.specs.declared.shapes.Square.{Square}
use Rattle.flat_layout.specs.Parts.{Joint, InRegion}

-- the region of the cell's flat squares that has s
abbrev pub RegionAt : Design → Joint → Geometry → ℕ → Square → Square → Type 0
RegionAt d j g cell s = InRegion j (InFlat d cell g.region) s

-- a square of it, or one that touches it
abbrev pub IsByRegion : Design → Joint → Geometry → ℕ → Square → Square → Type 0
IsByRegion d j g cell s = IsCloseTo (RegionAt d j g cell s)

-- nothing from elsewhere disturbs the region or what is round it, in whichever way the cells of the
-- design keep squares
pub record IsWhole (d : Design) (j : Joint) (g : Geometry) (cell : ℕ) (s : Square) : Type 0 where
  pub is : InFlat d cell g.region s
  pub calm : (q : Square) → IsByRegion d j g cell s q → IsStirred d g.keys g.reach cell q → ⊥

-- the region is the image of a whole one
pub record IsWholeBelow (d : Design) (j : Joint) (g : Geometry) (cell : ℕ)
    (s : Square) : Type 0 where
  pub number : ℕ
  pub place : Place
  pub square : Square
  pub placed : IsPlaced d cell number place
  pub whole : IsWhole d j g place.cell square
  pub image : RegionAt d j g cell s (moved_square place.motion square)

-- a region of the cell's own: whole here, and not the image of a whole one
pub record IsOwnRegion (d : Design) (j : Joint) (g : Geometry) (cell : ℕ)
    (s : Square) : Type 0 where
  pub whole : IsWhole d j g cell s
  pub new : IsWholeBelow d j g cell s → ⊥

-- a region of a cell's own somewhere below, with its image
pub record IsFoundRegion (d : Design) (j : Joint) (g : Geometry) (cell : ℕ)
    (s : Square) : Type 0 where
  pub path : List ℕ
  pub end : ℕ
  pub square : Square
  pub place : Square
  pub takes : Takes d cell path end square place
  pub image : RegionAt d j g cell s place
  pub own : IsOwnRegion d j g end square

-- of each whole region of reached cells it is known whether it is the cell's own
abbrev pub ArePartedRegions : Design → Joint → Geometry → Type 0
ArePartedRegions d j g = (cell : ℕ) (s : Square) → IsReached d cell → IsWhole d j g cell s
    → IsOwnRegion d j g cell s ⊎ IsWholeBelow d j g cell s
