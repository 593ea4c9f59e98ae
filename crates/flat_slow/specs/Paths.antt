-- The plain design that a small one stands for.
use Rattle.std.specs.Prelude.{◌≡◌, ◌⊎◌, ℕ, [], ◌∷◌, Option, Some, None, map}
use Rattle.geo_base.specs.Motions.{moved_square}
use Rattle.geo_base.specs.declared.layer.LayerKey.{LayerKey}
use Rattle.geo_base.specs.declared.shapes.Square.{Square}
use Rattle.flat_layout.specs.Layout.{Place, Layer, Cell, Design, Some_of, IsPlaced, IsReached}
use Rattle.flat_layout.specs.Layout.{InFlatInput, IsDisturbed}
use Rattle.flat_layout.specs.Plane.{IsIn}
use Rattle.flat_layout.specs.Zones.{IsBeside}
use Rattle.flat_layout.specs.declared.way.Way.TheVariants.{Disturbed}
use Rattle.flat_slow.specs.declared.design.SlowShape.{SlowShape}
use Rattle.flat_slow.specs.declared.design.SlowPlace.{SlowPlace}
use Rattle.flat_slow.specs.declared.design.SlowCell.{SlowCell}
use Rattle.flat_slow.specs.declared.design.SlowDesign.{SlowDesign}

abbrev pub plain_layer : SlowShape → Layer
plain_layer s = record { key = s.key; rects = s.rect ∷ [] }

abbrev pub plain_place : SlowPlace → Place
plain_place p = record { cell = p.cell; motion = p.motion }

abbrev pub plain_cell : SlowCell → Cell
plain_cell c = record {
  name = [];
  layers = map plain_layer c.shapes.items;
  texts = [];
  places =
      map plain_place c.places.items;
}

abbrev pub plain : SlowDesign → Design
plain d = record { cells = map plain_cell d.cells.items; top = d.top; way = Disturbed }

-- the layer is this one, and a rectangle of it covers the square
abbrev pub IsOnLayer : LayerKey → Square → Layer → Type 0
IsOnLayer key q layer = (layer.key ≡ key) × Some_of (IsIn q) layer.rects

-- a shape lies over the square in the cell, other than through the placement to be skipped
abbrev pub IsOver : Design → ℕ → Option ℕ → LayerKey → Square → Type 0
IsOver d cell None key q = InFlatInput d cell key q
IsOver d cell (Some k) key q = IsBeside d (key ∷ []) cell k q

-- it comes through the k-th placement, which isn't the one to be skipped
abbrev pub IsThrough : Design → ℕ → Option ℕ → LayerKey → Square → ℕ → Place → Type 0
IsThrough d cell skip key q k p = IsPlaced d cell k p × (skip ≡ Some k → ⊥)
    × ((r : Square) × InFlatInput d p.cell key r × (moved_square p.motion r ≡ q))

-- the k-th placement of a parent disturbs the square
abbrev pub IsDisturbedBy : Design → ℕ → LayerKey → Square → ℕ → ℕ → Place → Type 0
IsDisturbedBy d cell key q parent k p = IsReached d parent × IsPlaced d parent k p × (p.cell ≡ cell)
    × (IsDisturbed d (key ∷ []) parent (moved_square p.motion q)
    ⊎ IsBeside d (key ∷ []) parent k (moved_square p.motion q))
