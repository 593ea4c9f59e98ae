-- Where squares that a cell holds itself can lie.
use Rattle.std.specs.Prelude.{◌≡◌, ◌⊎◌, ◌↔◌, ℕ}
use Rattle.geo_base.specs.Motions.{moved_square}
use Rattle.geo_base.specs.declared.layer.LayerKey.{LayerKey}
use Rattle.geo_base.specs.declared.shapes.Square.{Square}
use Rattle.flat_layout.specs.Layers.{Formula, Input, Empty, Binary, Sized, inputs, reach}
use Rattle.flat_layout.specs.Layers.{InFlat, IsCalmAt, IsDecided, IsKeptBelow}
use Rattle.flat_layout.specs.Layout.{Design, Place, Some_of, IsOwn, IsPlaced, IsReached}
use Rattle.flat_layout.specs.Layout.{InFlatInput}
use Rattle.flat_layout.specs.Plane.{AreWithin}

-- a derived name: a cell keeps those of its flat squares near which all is shut
abbrev pub IsDerived : Formula → Type 0
IsDerived (Binary op a b) = Unit {0}
IsDerived (Sized by a) = Unit {0}
IsDerived (Input key) = ⊥
IsDerived Empty = ⊥

-- the square lies within a name's reach of an own shape of the cell on one of its inputs
pub record IsNearOwn (d : Design) (cell : ℕ) (name : Formula) (q : Square) : Type 0 where
  pub key : LayerKey
  pub square : Square
  pub listed : Some_of (λ k. k ≡ key) (inputs name)
  pub own : IsOwn d cell key square
  pub within : AreWithin (reach name) square q

-- it comes from a placed cell, where a shape on one of the inputs lies within the name's reach, and
-- not all is shut there
pub record IsFromOpen (d : Design) (cell : ℕ) (name : Formula) (q : Square) : Type 0 where
  pub number : ℕ
  pub place : Place
  pub square : Square
  pub placed : IsPlaced d cell number place
  pub key : LayerKey
  pub listed : Some_of (λ k. k ≡ key) (inputs name)
  pub shape : Square
  pub flat : InFlatInput d place.cell key shape
  pub within : AreWithin (reach name) shape square
  pub left : IsCalmAt d (inputs name) (reach name) place.cell square → ⊥
  pub image : moved_square place.motion square ≡ q

-- or from one where all within the name's reach is shut
pub record IsFromCalm (d : Design) (cell : ℕ) (name : Formula) (q : Square) : Type 0 where
  pub number : ℕ
  pub place : Place
  pub square : Square
  pub placed : IsPlaced d cell number place
  pub calm : IsCalmAt d (inputs name) (reach name) place.cell square
  pub image : moved_square place.motion square ≡ q

-- it is decided near which squares round the shapes of placed cells all is shut
abbrev pub AreDecidedBelow : Design → ℕ → Formula → Type 0
AreDecidedBelow d cell name = (k : ℕ) (p : Place) (key : LayerKey) (z r : Square)
    → IsPlaced d cell k p → InFlatInput d p.cell key z → AreWithin (reach name) z r
    → IsDecided (IsCalmAt d (inputs name) (reach name) p.cell r)

-- a flat square that isn't near own shapes, nor comes from an open one, is kept by a placed cell
abbrev pub CandidateLaw : Type 0
CandidateLaw = (d : Design) (name : Formula) (cell : ℕ) (q : Square) → IsReached d cell
    → AreDecidedBelow d cell name → InFlat d cell name q
    → IsNearOwn d cell name q ⊎ (IsFromOpen d cell name q ⊎ IsKeptBelow d cell name q)

-- of a derived name's flat squares, the placed cells keep those near which all is shut there
abbrev pub BelowLaw : Type 0
BelowLaw = (d : Design) (name : Formula) (cell : ℕ) (q : Square) → IsDerived name → IsReached d cell
    → InFlat d cell name q → IsKeptBelow d cell name q ↔ IsFromCalm d cell name q
