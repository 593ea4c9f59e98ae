-- What the laws of kept squares and of gates need of the squares that a cell shuts against what
-- others draw: any other way of shutting them has to obey these laws, and no more.
use Rattle.std.specs.Prelude.{◌≡◌, ◌↔◌, ℕ, List}
use Rattle.flat_layout.specs.Layers.{Formula, InFlat, IsShutBy, IsLone}
use Rattle.flat_layout.specs.Layout.{Design, InFlatInput, IsDisturbed, IsHeight, IsPlaced}
use Rattle.flat_layout.specs.Layout.{IsReached, Place, Some_of}
use Rattle.flat_layout.specs.declared.way.Way.{Way}
use Rattle.geo_base.specs.declared.layer.LayerKey.{LayerKey}
use Rattle.geo_base.specs.Motions.{moved_square}
use Rattle.geo_base.specs.declared.shapes.Square.{Square}

-- which squares a cell shuts for some layers, and where what others draw may make a square of a
-- name without the cell
pub record Keeping : Type 1 where
  pub shut : Design → List LayerKey → ℕ → Square → Type 0
  pub lone : Design → ℕ → Formula → Square → Type 0

-- each way of a design
abbrev pub keeping : Way → Keeping
keeping way = record { shut = IsShutBy way; lone = IsLone }

-- where a square is shut in a placed cell, the cell has its flat squares in its parent, and no
-- others lie there
abbrev pub ShutInputLaw : Keeping → Type 0
ShutInputLaw way =
    (d : Design) (keys : List LayerKey) (key : LayerKey) (parent k : ℕ) (p : Place) (q : Square)
    → IsReached d parent → IsPlaced d parent k p → Some_of (λ j. j ≡ key) keys
    → way.shut d keys p.cell q
    → InFlatInput d parent key (moved_square p.motion q) ↔ InFlatInput d p.cell key q

-- its image is shut in the parent
abbrev pub ShutAboveLaw : Keeping → Type 0
ShutAboveLaw way = (d : Design) (keys : List LayerKey) (parent k : ℕ) (p : Place) (q : Square)
    → IsPlaced d parent k p → way.shut d keys p.cell q
    → way.shut d keys parent (moved_square p.motion q)

-- all of the top is
abbrev pub ShutTopLaw : Keeping → Type 0
ShutTopLaw way = (d : Design) (height : ℕ → ℕ) → IsHeight d height → (keys : List LayerKey)
    (q : Square) → way.shut d keys d.top q

-- what is shut for some layers is so for fewer
abbrev pub ShutFewerLaw : Keeping → Type 0
ShutFewerLaw way = (d : Design) (keys more : List LayerKey) (cell : ℕ) (q : Square)
    → ((key : LayerKey) → Some_of (λ k. k ≡ key) keys → Some_of (λ k. k ≡ key) more)
    → way.shut d more cell q → way.shut d keys cell q

-- what nothing disturbs is shut
abbrev pub ShutStillLaw : Keeping → Type 0
ShutStillLaw way = (d : Design) (keys : List LayerKey) (cell : ℕ) (q : Square)
    → (IsDisturbed d keys cell q → ⊥) → way.shut d keys cell q

-- under a flat square of another placement a name's square may be made without the placed cell
abbrev pub LoneLaw : Keeping → Type 0
LoneLaw way = (d : Design) (name : Formula) (cell j k : ℕ) (p r : Place) (q z : Square)
    → IsReached d cell → IsPlaced d cell j p → IsPlaced d cell k r → (j ≡ k → ⊥)
    → moved_square p.motion q ≡ moved_square r.motion z → InFlat d r.cell name z
    → way.lone d p.cell name q

-- all of them
pub record AreShutLaws (way : Keeping) : Type 0 where
  pub input : ShutInputLaw way
  pub above : ShutAboveLaw way
  pub top : ShutTopLaw way
  pub fewer : ShutFewerLaw way
  pub still : ShutStillLaw way
  pub lone : LoneLaw way
