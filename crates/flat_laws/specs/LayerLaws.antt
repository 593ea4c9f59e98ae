-- Flat, disturbed, kept and local squares of a cell and of the cells that it places.
use Rattle.std.specs.Prelude.{◌≡◌, ◌⊎◌, ◌↔◌, ℕ, List}
use Rattle.flat_layout.specs.Layers.{InFlat, IsCalmAt, IsCovered, IsKept, IsKeptBelow, IsLocal}
use Rattle.flat_layout.specs.Layers.{Formula, inputs, reach, IsStirred}
use Rattle.flat_layout.specs.Layout.{Design, InFlatInput, IsDisturbed, IsHeight, IsPlaced}
use Rattle.flat_layout.specs.Layout.{IsReached, Place, Some_of}
use Rattle.flat_layout.specs.Plane.{AreWithin}
use Rattle.flat_layout.specs.Zones.{IsDisturbedAbove}
use Rattle.flat_layout.specs.declared.way.Way.TheVariants.{Disturbed}
use Rattle.geo_base.specs.declared.layer.LayerKey.{LayerKey}
use Rattle.geo_base.specs.Motions.{moved_square}
use Rattle.geo_base.specs.declared.shapes.Square.{Square}
use Rattle.flat_laws.specs.ShutLaws.{ShutInputLaw, keeping}

-- disturbed squares come down from the cells that place a cell: from their disturbed squares, and
-- from shapes beside the placement
abbrev pub ZoneLaw : Type 0
ZoneLaw = (d : Design) (keys : List LayerKey) (cell : ℕ) (q : Square) → IsDisturbed d keys cell q
    ↔ IsDisturbedAbove d keys cell q

-- outside the disturbed squares a placed cell has its flat squares in its parent, and no others lie
-- there
abbrev pub UndisturbedLaw : Type 0
UndisturbedLaw = ShutInputLaw (keeping Disturbed)

-- within 0 of a square lies that square alone
abbrev pub StillLaw : Type 0
StillLaw = (d : Design) (keys : List LayerKey) (cell : ℕ) (q : Square) → IsStirred d keys 0 cell q
    ↔ IsDisturbed d keys cell q

-- a flat square of a name lies within its reach of a shape on one of its inputs
abbrev pub NearInputLaw : Type 0
NearInputLaw = (d : Design) (cell : ℕ) (name : Formula) (q : Square) → InFlat d cell name q
    → (key : LayerKey) × Some_of (λ k. k ≡ key) (inputs name) × (z : Square)
    × AreWithin (reach name) z q × InFlatInput d cell key z

-- near what isn't disturbed in a placed cell nothing is in its parent
abbrev pub CalmLaw : Type 0
CalmLaw = (d : Design) (keys : List LayerKey) (n parent k : ℕ) (p : Place) (q : Square)
    → IsPlaced d parent k p → IsCalmAt d keys n p.cell q
    → IsCalmAt d keys n parent (moved_square p.motion q)

-- the flat squares of a name stay where nothing is disturbed within its reach
abbrev pub SameFlatLaw : Type 0
SameFlatLaw = (d : Design) (name : Formula) (parent k : ℕ) (p : Place) (q : Square)
    → IsReached d parent → IsPlaced d parent k p
    → IsCalmAt d (inputs name) (reach name) p.cell q
    → InFlat d parent name (moved_square p.motion q) ↔ InFlat d p.cell name q

-- what the cells hold at and below a cell covers what it keeps
abbrev pub CoverLaw : Type 0
CoverLaw = (d : Design) (height : ℕ → ℕ) (name : Formula) → IsHeight d height
    → ((cell : ℕ) (q : Square) → IsReached d cell → IsKept d cell name q → IsLocal d cell name q
    ⊎ IsKeptBelow d cell name q)
    → (cell : ℕ) (q : Square) → IsReached d cell → IsCovered d cell name q ↔ IsKept d cell name q

-- the top keeps its whole flat layout
abbrev pub TopKeptLaw : Type 0
TopKeptLaw = (d : Design) (height : ℕ → ℕ) (name : Formula) (q : Square) → IsHeight d height
    → IsKept d d.top name q ↔ InFlat d d.top name q
