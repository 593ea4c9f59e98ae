-- What the tables hold of a name.
use Rattle.std.specs.Prelude.{◌≡◌, ℕ, ◌≤◌, ◌^◌, List, Some, get_or}
use Rattle.geo_base.specs.Rects.{IsRect, IsInside}
use Rattle.geo_base.specs.declared.shapes.Rect.{Rect}
use Rattle.flat_layout.specs.Layers.{Formula, reach}
use Rattle.flat_layout.specs.Layout.{Design, IsReached}
use Rattle.flat_layout.specs.Values.{IsLocalLayer}
use Rattle.cell_graph.specs.Linked.{IsRectWithin}
use Rattle.deep_tables.specs.Layers.{layer_of}
use Rattle.gate_phase.specs.Indexes.{LayersOf}

-- under this number it is known how far the name reaches, which is no further than 10,000
pub record IsReachOf (reaches : List ℕ) (name : ℕ) (x : Formula) : Type 0 where
  pub is : get_or reaches name 0 ≡ reach x
  pub most : reach x ≤ 10000

-- and the table has, of each reached cell, what it holds itself of the name
abbrev pub HasLocals : Design → LayersOf → ℕ → Formula → Type 0
HasLocals d layers name x = (cell : ℕ) → IsReached d cell → (layer : List Rect)
    × (layer_of layers.table cell name ≡ Some layer) × IsLocalLayer d x cell layer
    × IsReachOf layers.reaches name x

-- a rectangle that lies where motions are worked
pub record IsNearPiece (r : Rect) : Type 0 where
  pub some : IsRect r
  pub near : IsRectWithin (2 ^ 39) r

-- all rectangles that are near lie in the plane
abbrev pub HoldsNear : Rect → Type 0
HoldsNear plane = (r : Rect) → IsRectWithin (2 ^ 39) r → IsInside r plane
