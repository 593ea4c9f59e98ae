-- Selections one after the other: each may read the layers of those before it.
use Rattle.std.specs.Prelude.{◌≡◌, ◌↔◌, ℕ, List, [], ◌∷◌, Some, slice_get}
use Rattle.flat_layout.specs.Layers.{Formula, inputs, InFlat}
use Rattle.flat_layout.specs.Layout.{Design, InFlatInput, IsHeight, Some_of}
use Rattle.geo_base.specs.declared.layer.LayerKey.{LayerKey}
use Rattle.geo_base.specs.declared.shapes.Square.{Square}
use Rattle.select_laws.specs.Layered.{IsLayered}
use Rattle.select_laws.specs.Selects.{Select, IsSelected, sight}
use Rattle.select_laws.specs.Whole.{ArePartedRegions}

-- a selection, and the key of the layer that it becomes
pub record Stage : Type 0 where
  pub key : LayerKey
  pub select : Select

-- the design with the layers of all these selections
abbrev pub IsStaged : Design → List Stage → Design → Type 0
IsStaged d [] e = d ≡ e
IsStaged d (s ∷ ss) e = (m : Design) × IsLayered d m s.key s.select
    × ArePartedRegions d s.select.joint (sight s.select) × IsStaged m ss e

abbrev pub IsKeyOf : List Stage → LayerKey → Type 0
IsKeyOf ss key = Some_of (λ t. t.key ≡ key) ss

-- some name of the selection reads the key
abbrev pub Reads : Stage → LayerKey → Type 0
Reads s key = Some_of (λ k. k ≡ key) (sight s.select).keys

-- it reads neither its own layer nor those behind it, and these have other keys
pub record IsBefore (s : Stage) (ss : List Stage) : Type 0 where
  pub own : Reads s s.key → ⊥
  pub unread : (key : LayerKey) → IsKeyOf ss key → Reads s key → ⊥
  pub apart : IsKeyOf ss s.key → ⊥

abbrev pub AreInTurn : List Stage → Type 0
AreInTurn [] = Unit {0}
AreInTurn (s ∷ ss) = IsBefore s ss × AreInTurn ss

-- what reads none of the further layers is as it was, in every cell
abbrev pub UnreadLaw : Type 0
UnreadLaw = (d e : Design) (ss : List Stage) (name : Formula) → IsStaged d ss e
    → ((key : LayerKey) → IsKeyOf ss key → Some_of (λ k. k ≡ key) (inputs name) → ⊥)
    → (e.top ≡ d.top) × ((cell : ℕ) (q : Square) → InFlat e cell name q ↔ InFlat d cell name q)

-- at the top each further layer is the flat selection of what the same design has there of the
-- names that it reads
abbrev pub StagedLaw : Type 0
StagedLaw = (d e : Design) (height : ℕ → ℕ) (ss : List Stage) → IsHeight d height → AreInTurn ss
    → IsStaged d ss e → (i : ℕ) (s : Stage) → slice_get ss i ≡ Some s
    → (q : Square) → InFlatInput e e.top s.key q ↔ IsSelected e s.select e.top q
