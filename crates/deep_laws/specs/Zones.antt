-- Disturbed squares by reference, row and column.
use Rattle.std.specs.Prelude.{◌≡◌, ◌⊎◌, ◌↔◌, ℕ, ◌<◌, Some, List, [], ◌∷◌, ◌++◌}
use Rattle.geo_base.specs.Motions.{moved_square}
use Rattle.geo_base.specs.declared.layer.LayerKey.{LayerKey}
use Rattle.geo_base.specs.declared.shapes.Square.{Square}
use Rattle.flat_layout.specs.Layout.{Design, InFlatInput, IsReached, IsDisturbed}
use Rattle.cell_graph.specs.declared.cells.Place.{Place}
use Rattle.cell_graph.specs.Linked.{Linked, IsSound, IsStep, plain, motion_at}
use Rattle.cell_context.specs.Over.{IsOver}

-- another element of the same array brings a flat square of the cell to the same place
pub record IsFromSibling (d : Linked) (p : Place) (row column : ℕ) (key : LayerKey)
    (q : Square) : Type 0 where
  pub other_row : ℕ
  pub other_column : ℕ
  pub row_in : other_row < p.rows
  pub column_in : other_column < p.columns
  pub other : (other_row ≡ row) × (other_column ≡ column) → ⊥
  pub square : Square
  pub flat : InFlatInput (plain d) p.cell key square
  pub image : moved_square (motion_at p other_row other_column) square
      ≡ moved_square (motion_at p row column) q

-- a reference of a reached parent disturbs the square
pub record IsDisturbedFrom (d : Linked) (cell : ℕ) (key : LayerKey) (q : Square) : Type 0 where
  pub parent : ℕ
  pub index : ℕ
  pub row : ℕ
  pub column : ℕ
  pub from : Place
  pub reached : IsReached (plain d) parent
  pub step : IsStep d parent index row column from
  pub here : from.cell ≡ cell
  pub why : IsDisturbed (plain d) (key ∷ []) parent (moved_square (motion_at from row column) q)
      ⊎ (IsOver d parent (Some index) key (moved_square (motion_at from row column) q)
      ⊎ IsFromSibling d from row column key q)

abbrev pub ArrayZoneLaw : Type 0
ArrayZoneLaw = (d : Linked) → IsSound d → (cell : ℕ) (key : LayerKey) (q : Square)
    → IsDisturbed (plain d) (key ∷ []) cell q ↔ IsDisturbedFrom d cell key q

-- disturbed for two lists of layers together: for one of them
abbrev pub UnionLaw : Type 0
UnionLaw = (d : Design) (xs ys : List LayerKey) (cell : ℕ) (q : Square)
    → IsDisturbed d (xs ++ ys) cell q ↔ (IsDisturbed d xs cell q ⊎ IsDisturbed d ys cell q)
