-- Where a cell may have gates of its own: near its own shapes, and near what placed cells leave open.
use Rattle.std.specs.Prelude.{◌≡◌, ◌⊎◌, ℕ, ◌+◌, List, Bool, true}
use Rattle.geo_base.specs.Motions.{moved_square}
use Rattle.geo_base.specs.declared.layer.LayerKey.{LayerKey}
use Rattle.geo_base.specs.declared.shapes.Square.{Square}
use Rattle.flat_layout.specs.Gates.{Geometry, InGate, IsGateOrRing, IsSettled}
use Rattle.flat_layout.specs.Layout.{Place, Design, Some_of, IsOwn, IsPlaced, InFlatInput}
use Rattle.flat_layout.specs.Layout.{IsDisturbed}
use Rattle.flat_layout.specs.Layers.{IsKept, IsCalmAt, IsLone}
use Rattle.flat_layout.specs.Parts.{IsStep, InPart, IsCloseTo}
use Rattle.flat_layout.specs.Plane.{AreWithin}

-- within n of a flat square of the cell on one of the layers; so within its hull, grown by n
pub record IsInReach (d : Design) (keys : List LayerKey) (n cell : ℕ) (q : Square) : Type 0 where
  pub square : Square
  pub key : LayerKey
  pub listed : Some_of (λ k. k ≡ key) keys
  pub flat : InFlatInput d cell key square
  pub within : AreWithin n square q

-- an own square of the cell on one of the layers
pub record IsOwnSeed (d : Design) (keys : List LayerKey) (cell : ℕ) (q : Square) : Type 0 where
  pub key : LayerKey
  pub listed : Some_of (λ k. k ≡ key) keys
  pub own : IsOwn d cell key q

-- the image of a square that is disturbed in a placed cell, so near a shape there that it may
-- disturb the ring of a gate that this shape makes
pub record IsPlacedSeed (d : Design) (g : Geometry) (cell : ℕ) (q : Square) : Type 0 where
  pub number : ℕ
  pub place : Place
  pub square : Square
  pub placed : IsPlaced d cell number place
  pub reach : IsInReach d g.keys ((g.reach + 1) + g.reach) place.cell square
  pub disturbed : IsDisturbed d g.keys place.cell square
  pub image : moved_square place.motion square ≡ q

abbrev pub IsSeed : Design → Geometry → ℕ → Square → Type 0
IsSeed d g cell q = IsOwnSeed d g.keys cell q ⊎ IsPlacedSeed d g cell q

-- a seed lies within the geometry's reach of q
pub record IsNearSeed (d : Design) (g : Geometry) (cell : ℕ) (q : Square) : Type 0 where
  pub square : Square
  pub within : AreWithin g.reach square q
  pub seed : IsSeed d g cell square

-- the gate is the image, through this placement, of a settled one
pub record IsGateThrough (d : Design) (g : Geometry) (cell : ℕ) (s : Square) (p : Place) : Type 0
  where
    pub square : Square
    pub settled : IsSettled d g p.cell square
    pub image : moved_square p.motion square ≡ s

-- all that is close to the gate, pulled back through the placement, lies in reach of the placed
-- cell, and nothing is disturbed there within the geometry's reach
pub record IsFreeThrough (d : Design) (g : Geometry) (cell : ℕ) (s : Square) (p : Place) : Type 0
  where
    pub reach : (q : Square) → IsGateOrRing d g cell s (moved_square p.motion q)
        → IsInReach d g.keys (g.reach + 1) p.cell q
    pub calm : (q : Square) → IsGateOrRing d g cell s (moved_square p.motion q)
        → IsCalmAt d g.keys g.reach p.cell q
    pub mine : Square
    pub in_gate : InGate d g cell s (moved_square p.motion mine)
    pub alone : IsLone d p.cell g.region mine → ⊥

-- within the geometry's reach nothing is disturbed close to the part of the kept gate squares that has s
pub record IsCalmPart (d : Design) (g : Geometry) (cell : ℕ) (s : Square) : Type 0 where
  pub calm : (q : Square) → IsCloseTo (InPart (IsKept d cell g.region) s) q
      → IsCalmAt d g.keys g.reach cell q
  pub mine : Square
  pub in_part : InPart (IsKept d cell g.region) s mine
  pub alone : IsLone d cell g.region mine → ⊥

-- found squares are kept gate squares, with all that steps lead to
pub record IsClosed (d : Design) (g : Geometry) (cell : ℕ) (found : Square → Bool) : Type 0 where
  pub kept : (q : Square) → found q ≡ true → IsKept d cell g.region q
  pub steps : (p q : Square) → found p ≡ true → IsStep (IsKept d cell g.region) p q → found q ≡ true
