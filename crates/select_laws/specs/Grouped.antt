-- Selections that don't read each other may be found over one design.
use Rattle.std.specs.Prelude.{◌≡◌, ◌↔◌, ℕ}
use Rattle.flat_layout.specs.Layout.{Design, Some_of}
use Rattle.geo_base.specs.declared.layer.LayerKey.{LayerKey}
use Rattle.geo_base.specs.declared.shapes.Square.{Square}
use Rattle.select_laws.specs.Layered.{IsSameElse, IsOwnSelected}
use Rattle.select_laws.specs.Selects.{Select, sight}
use Rattle.select_laws.specs.Whole.{ArePartedRegions}

-- what a cell holds of a selection doesn't change by a layer that the selection doesn't read
abbrev pub GroupLaw : Type 0
GroupLaw = (d e : Design) (key : LayerKey) (x : Select) → IsSameElse d e key
    → (Some_of (λ k. k ≡ key) (sight x).keys → ⊥) → (cell : ℕ) (q : Square)
    → IsOwnSelected e x cell q ↔ IsOwnSelected d x cell q

-- nor does it change whether it is known which regions are the cells' own
abbrev pub GroupPartedLaw : Type 0
GroupPartedLaw = (d e : Design) (key : LayerKey) (x : Select) → IsSameElse d e key
    → (Some_of (λ k. k ≡ key) (sight x).keys → ⊥) → ArePartedRegions d x.joint (sight x)
    → ArePartedRegions e x.joint (sight x)
