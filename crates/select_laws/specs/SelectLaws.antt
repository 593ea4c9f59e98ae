-- A selection is the same from every cell in which its region is whole, and as a layer of a further
-- design it covers the flat selection.
use Rattle.std.specs.Prelude.{◌≡◌, ◌↔◌, ℕ}
use Rattle.flat_layout.specs.Layers.{Formula, inputs, InFlat}
use Rattle.flat_layout.specs.Layout.{Place, Design, InFlatInput, IsHeight, IsPlaced, IsReached}
use Rattle.flat_layout.specs.Layout.{Some_of}
use Rattle.geo_base.specs.Motions.{moved_square}
use Rattle.geo_base.specs.declared.layer.LayerKey.{LayerKey}
use Rattle.geo_base.specs.declared.shapes.Square.{Square}
use Rattle.select_laws.specs.Layered.{IsLayered, IsSameElse}
use Rattle.select_laws.specs.Selects.{Select, IsSelected, sight}
use Rattle.select_laws.specs.Whole.{IsWhole, ArePartedRegions}

-- of a region that is whole in a placed cell it is the same there and in its parent whether it is
-- chosen
abbrev pub SameChoiceLaw : Type 0
SameChoiceLaw = (d : Design) (x : Select) (cell k : ℕ) (p : Place) (s : Square) → IsReached d cell
    → IsPlaced d cell k p → IsWhole d x.joint (sight x) p.cell s
    → IsSelected d x cell (moved_square p.motion s) ↔ IsSelected d x p.cell s

-- names that don't read the further layer mean what they meant
abbrev pub OthersLaw : Type 0
OthersLaw = (d e : Design) (key : LayerKey) (name : Formula) → IsSameElse d e key
    → (Some_of (λ k. k ≡ key) (inputs name) → ⊥) → (cell : ℕ) (q : Square)
    → InFlat e cell name q ↔ InFlat d cell name q

-- and the chosen regions of the cells' own, as a further layer, are the flat selection
abbrev pub SelectedLaw : Type 0
SelectedLaw = (d e : Design) (key : LayerKey) (height : ℕ → ℕ) (x : Select) → IsHeight d height
    → ArePartedRegions d x.joint (sight x) → IsLayered d e key x
    → (q : Square) → InFlatInput e e.top key q ↔ IsSelected d x d.top q
