-- Which gates of a cell are its own, by a sound geometry.
use Rattle.std.specs.Prelude.{◌↔◌, ℕ, ◌+◌, Bool, true, ◌≡◌, ◌⊎◌}
use Rattle.flat_layout.specs.Gates.{Geometry, InGate, IsGateBelow, IsGateOrRing, IsListedGate}
use Rattle.flat_layout.specs.Gates.{IsSettled, IsSoundGeometry}
use Rattle.flat_layout.specs.Layers.{InFlat, IsKept, IsShut, IsCalmAt, IsLone}
use Rattle.flat_layout.specs.Layout.{Design, IsPlaced, IsReached, Place}
use Rattle.flat_layout.specs.Parts.{InPart}
use Rattle.flat_layout.specs.Plane.{AreWithin, IsAround}
use Rattle.flat_layout.specs.Seeds.{IsInReach, IsNearSeed, IsOwnSeed, IsGateThrough}
use Rattle.flat_layout.specs.Seeds.{IsFreeThrough, IsCalmPart, IsClosed}
use Rattle.geo_base.specs.Motions.{moved_square}
use Rattle.geo_base.specs.declared.shapes.Square.{Square}

-- all that is close to a gate lies in reach of the cell
abbrev pub ReachLaw : Type 0
ReachLaw = (d : Design) (g : Geometry) (cell : ℕ) (s q : Square) → IsSoundGeometry g
    → IsGateOrRing d g cell s q → IsInReach d g.keys (g.reach + 1) cell q

-- a gate near which there is no seed is the image of a settled one
abbrev pub SeedLaw : Type 0
SeedLaw = (d : Design) (g : Geometry) (cell : ℕ) (s : Square) → IsSoundGeometry g → IsReached d cell
    → InFlat d cell g.region s
    → ((q : Square) → IsGateOrRing d g cell s q → IsNearSeed d g cell q → ⊥)
    → IsGateBelow d g cell s

-- a gate is the image of a settled one through a placement exactly where what is close to it is
-- free there
abbrev pub ThroughLaw : Type 0
ThroughLaw = (d : Design) (g : Geometry) (cell k : ℕ) (p : Place) (s : Square) → IsSoundGeometry g
    → IsReached d cell → IsPlaced d cell k p → InFlat d cell g.region s
    → IsGateThrough d g cell s p ↔ IsFreeThrough d g cell s p

-- that what is close to it is calm there is enough, with a square that others can't make alone
abbrev pub CalmThroughLaw : Type 0
CalmThroughLaw = (d : Design) (g : Geometry) (cell k : ℕ) (p : Place) (s : Square)
    → IsSoundGeometry g → IsReached d cell → IsPlaced d cell k p → InFlat d cell g.region s
    → ((q : Square) → IsGateOrRing d g cell s (moved_square p.motion q)
    → IsCalmAt d g.keys g.reach p.cell q)
    → (mine : Square) → InGate d g cell s (moved_square p.motion mine)
    → (IsLone d p.cell g.region mine → ⊥) → IsGateThrough d g cell s p

-- what the test of a gate through a placement says
pub record IsTested (d : Design) (g : Geometry) (cell : ℕ) (s : Square) (p : Place)
    (hull left lone : Square → Bool) : Type 0 where
  pub close : (q : Square) → IsGateOrRing d g cell s (moved_square p.motion q)
      → (hull q ≡ true) × (left q ≡ true → ⊥)
  pub mine : Square
  pub in_gate : InGate d g cell s (moved_square p.motion mine)
  pub alone : lone mine ≡ true → ⊥

-- the test by tables: a set that has all in reach of the placed cell, which of its squares aren't
-- calm, and which others may make alone
abbrev pub TestLaw : Type 0
TestLaw = (d : Design) (g : Geometry) (cell k : ℕ) (p : Place) (s : Square)
    (hull left lone : Square → Bool) → IsSoundGeometry g → IsReached d cell → IsPlaced d cell k p
    → InFlat d cell g.region s
    → ((q : Square) → IsInReach d g.keys (g.reach + 1) p.cell q → hull q ≡ true)
    → ((q : Square) → hull q ≡ true → (left q ≡ true → ⊥) ↔ IsCalmAt d g.keys g.reach p.cell q)
    → ((q : Square) → hull q ≡ true → (lone q ≡ true → ⊥) ↔ (IsLone d p.cell g.region q → ⊥))
    → IsGateThrough d g cell s p ↔ IsTested d g cell s p hull left lone

-- and it is the image of one at all exactly where it is through some placement
abbrev pub BelowLaw : Type 0
BelowLaw =
    (d : Design) (g : Geometry) (cell : ℕ) (s : Square) → IsSoundGeometry g → IsReached d cell
    → IsGateBelow d g cell s ↔ ((k : ℕ) × (p : Place) × IsPlaced d cell k p
    × IsGateThrough d g cell s p)

-- a part of the kept gate squares that nothing disturbs close by is a settled gate, and each
-- settled gate is one
abbrev pub KeptPartLaw : Type 0
KeptPartLaw = (d : Design) (g : Geometry) (cell : ℕ) (s : Square) → IsSoundGeometry g
    → IsKept d cell g.region s
    → (IsCalmPart d g cell s ↔ IsSettled d g cell s)
    × (IsSettled d g cell s → (q : Square) → InPart (IsKept d cell g.region) s q
    ↔ InGate d g cell s q)

-- found squares that are closed under steps hold whole parts
abbrev pub ClosedLaw : Type 0
ClosedLaw = (d : Design) (g : Geometry) (cell : ℕ) (found : Square → Bool) → IsClosed d g cell found
    → (s q : Square) → found s ≡ true → InPart (λ a. found a ≡ true) s q
    ↔ InPart (IsKept d cell g.region) s q

-- of a settled gate it is known whether it is the cell's own, where it is known of those that were
-- found, and all that are near a seed were
abbrev pub PartedLaw : Type 0
PartedLaw = (d : Design) (g : Geometry) (cell : ℕ) (found : Square → Bool) → IsSoundGeometry g
    → IsReached d cell → IsClosed d g cell found
    → ((a q : Square) → IsKept d cell g.region a → IsAround a q → IsNearSeed d g cell q
    → found a ≡ true)
    → ((s : Square) → found s ≡ true → IsSettled d g cell s → IsListedGate d g cell s
    ⊎ IsGateBelow d g cell s)
    → (s : Square) → IsSettled d g cell s → IsListedGate d g cell s ⊎ IsGateBelow d g cell s

-- a table has, near the shapes of each placed cell, what isn't shut there; and nearer to them what
-- others may make there without it
pub record AreLeft (d : Design) (g : Geometry) (cell : ℕ) (left : ℕ → Square → Bool) : Type 0 where
  pub shut : (k : ℕ) (p : Place) (q : Square) → IsPlaced d cell k p
      → IsInReach d g.keys ((g.reach + 1) + g.reach) p.cell q → (left p.cell q ≡ true → ⊥)
      → IsShut d g.keys p.cell q
  pub lone : (k : ℕ) (p : Place) (q : Square) → IsPlaced d cell k p
      → IsInReach d g.keys g.reach p.cell q → (left p.cell q ≡ true → ⊥)
      → IsLone d p.cell g.region q → ⊥

-- where nothing that it has and no own shape lies near the gate, it comes from below
abbrev pub SeedOpenLaw : Type 0
SeedOpenLaw = (d : Design) (g : Geometry) (cell : ℕ) (s : Square) (left : ℕ → Square → Bool)
    → IsSoundGeometry g → IsReached d cell → InFlat d cell g.region s → AreLeft d g cell left
    → ((q z : Square) → IsGateOrRing d g cell s q → AreWithin g.reach z q
    → IsOwnSeed d g.keys cell z → ⊥)
    → ((k : ℕ) (p : Place) (q z : Square) → IsPlaced d cell k p
    → IsGateOrRing d g cell s (moved_square p.motion q) → AreWithin g.reach z q
    → left p.cell z ≡ true → ⊥)
    → IsGateBelow d g cell s

-- the image of a square that the placed cell's table has
pub record IsTabledSeed (d : Design) (left : ℕ → Square → Bool) (cell : ℕ) (q : Square) : Type 0 where
  pub number : ℕ
  pub place : Place
  pub square : Square
  pub placed : IsPlaced d cell number place
  pub has : left place.cell square ≡ true
  pub image : moved_square place.motion square ≡ q

pub record IsNearOpen (d : Design) (g : Geometry) (left : ℕ → Square → Bool) (cell : ℕ) (q : Square)
    : Type 0 where
  pub square : Square
  pub within : AreWithin g.reach square q
  pub seed : IsOwnSeed d g.keys cell square ⊎ IsTabledSeed d left cell square

-- of a settled gate it is known whether it is the cell's own, where it is known of those that were
-- found, and all that are near an own shape, or near what the table has of placed cells, were
abbrev pub PartedOpenLaw : Type 0
PartedOpenLaw = (d : Design) (g : Geometry) (cell : ℕ) (left : ℕ → Square → Bool)
    (found : Square → Bool) → IsSoundGeometry g → IsReached d cell → IsClosed d g cell found
    → AreLeft d g cell left
    → ((a q : Square) → IsKept d cell g.region a → IsAround a q → IsNearOpen d g left cell q
    → found a ≡ true)
    → ((s : Square) → found s ≡ true → IsSettled d g cell s → IsListedGate d g cell s
    ⊎ IsGateBelow d g cell s)
    → (s : Square) → IsSettled d g cell s → IsListedGate d g cell s ⊎ IsGateBelow d g cell s
