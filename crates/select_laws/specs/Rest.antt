-- What of the regions' layer goes up: the kept squares in no whole region. From what a cell holds
-- itself and what goes up from the cells that it places, its own regions are found without a look
-- below.
use Rattle.std.specs.Prelude.{◌≡◌, ◌⊎◌, ◌↔◌, ℕ}
use Rattle.flat_layout.specs.Gates.{Geometry, IsSoundGeometry}
use Rattle.flat_layout.specs.Layers.{IsDecided, IsKept, IsKeptBelow, IsLocal, IsStirred}
use Rattle.flat_layout.specs.Layout.{Place, Design, IsPlaced, IsReached}
use Rattle.flat_layout.specs.Parts.{IsCloseTo}
use Rattle.geo_base.specs.Motions.{moved_square}
use Rattle.geo_base.specs.declared.shapes.Square.{Square}
use Rattle.flat_layout.specs.Parts.{Joint, InRegion}
use Rattle.select_laws.specs.Whole.{RegionAt, IsWhole, IsOwnRegion, ArePartedRegions}

-- a kept square whose region isn't whole in the cell
pub record IsRest (d : Design) (j : Joint) (g : Geometry) (cell : ℕ) (q : Square) : Type 0 where
  pub kept : IsKept d cell g.region q
  pub torn : IsWhole d j g cell q → ⊥

-- the image of one of a placed cell
pub record IsRestBelow (d : Design) (j : Joint) (g : Geometry) (cell : ℕ)
    (q : Square) : Type 0 where
  pub number : ℕ
  pub place : Place
  pub square : Square
  pub placed : IsPlaced d cell number place
  pub rest : IsRest d j g place.cell square
  pub image : moved_square place.motion square ≡ q

-- what the cell holds itself of the layer, and what goes up to it
abbrev pub IsCandidate : Design → Joint → Geometry → ℕ → Square → Type 0
IsCandidate d j g cell q = IsLocal d cell g.region q ⊎ IsRestBelow d j g cell q

-- of each kept square it is known whether the cell holds it itself
abbrev pub ArePartedSquares : Design → Geometry → ℕ → Type 0
ArePartedSquares d g cell = (q : Square) → IsKept d cell g.region q
    → IsLocal d cell g.region q ⊎ IsKeptBelow d cell g.region q

-- the candidates are the squares of the cell's own regions, and those that go on up
pub record AreCandidates (d : Design) (j : Joint) (g : Geometry) (cell : ℕ)
    (q : Square) : Type 0 where
  pub rest : IsRest d j g cell q → IsCandidate d j g cell q
  pub own : IsOwnRegion d j g cell q → IsCandidate d j g cell q
  pub whole : IsCandidate d j g cell q → IsWhole d j g cell q → IsOwnRegion d j g cell q
  pub torn : IsCandidate d j g cell q → (IsWhole d j g cell q → ⊥) → IsRest d j g cell q

abbrev pub RestLaw : Type 0
RestLaw = (d : Design) (j : Joint) (g : Geometry) (cell : ℕ) → IsSoundGeometry g → IsReached d cell
    → ArePartedSquares d g cell → (q : Square) → AreCandidates d j g cell q

-- a part of the candidates is whole exactly where nothing is disturbed close to it, and is then the
-- region of each of its squares
abbrev pub CandidateLaw : Type 0
CandidateLaw = (d : Design) (j : Joint) (g : Geometry) (cell : ℕ) → IsSoundGeometry g
    → IsReached d cell → ArePartedSquares d g cell → (s : Square) → IsCandidate d j g cell s
    → (((q : Square) → IsCloseTo (InRegion j (IsCandidate d j g cell) s) q
    → IsStirred d g.keys g.reach cell q → ⊥) ↔ IsWhole d j g cell s)
    × (IsWhole d j g cell s → (q : Square) → InRegion j (IsCandidate d j g cell) s q
    ↔ RegionAt d j g cell s q)

-- of a kept square it is known whether its region is whole in the cell
abbrev pub AreTold : Design → Joint → Geometry → ℕ → Type 0
AreTold d j g cell = (q : Square) → IsKept d cell g.region q
    → IsWhole d j g cell q ⊎ IsRest d j g cell q

-- it is known in a cell where it is in those that it places, and of its candidates
abbrev pub ToldLaw : Type 0
ToldLaw = (d : Design) (j : Joint) (g : Geometry) (cell : ℕ) → IsSoundGeometry g → IsReached d cell
    → ArePartedSquares d g cell → ((k : ℕ) (p : Place) → IsPlaced d cell k p → AreTold d j g p.cell)
    → ((s : Square) → IsCandidate d j g cell s → IsDecided (IsWhole d j g cell s))
    → AreTold d j g cell

-- and where it is known in all cells, so it is which regions are the cells' own
abbrev pub PartedRestLaw : Type 0
PartedRestLaw = (d : Design) (j : Joint) (g : Geometry) → IsSoundGeometry g
    → ((cell : ℕ) → IsReached d cell → ArePartedSquares d g cell)
    → ((cell : ℕ) → IsReached d cell → AreTold d j g cell) → ArePartedRegions d j g
