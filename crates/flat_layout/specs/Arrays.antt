-- References of a cell (SREF and AREF of a GDSII stream) as numbered placements: by reference, then
-- row, then column.
use Rattle.std.specs.Prelude.{ℕ, zero, suc, pos, ◌+ℤ◌, ◌*ℤ◌, List, [], ◌∷◌, ◌++◌}
use Rattle.geo_base.specs.declared.motion.Turn.{Turn}
use Rattle.geo_base.specs.declared.shapes.Point.{Point}
use Rattle.flat_layout.specs.Layout.{Place}

-- a single reference has one column, one row and steps of 0
pub record Reference : Type 0 where
  pub cell : ℕ
  pub turn : Turn
  pub origin : Point
  pub columns : ℕ
  pub rows : ℕ
  pub column_step : Point
  pub row_step : Point

-- the origin, moved by whole column steps and row steps
abbrev pub place_at : Reference → ℕ → ℕ → Place
place_at r row column = record {
  cell = r.cell;
  motion = record {
    turn = r.turn;
    dx = (r.origin.x +ℤ (pos column *ℤ r.column_step.x)) +ℤ (pos row *ℤ r.row_step.x);
    dy = (r.origin.y +ℤ (pos column *ℤ r.column_step.y)) +ℤ (pos row *ℤ r.row_step.y);
  };
}

-- n placements of a row, from a column on
abbrev pub row_places : Reference → ℕ → ℕ → ℕ → List Place
row_places r row column zero = []
row_places r row column (suc n) = place_at r row column ∷ row_places r row (suc column) n

-- n rows, from a row on
abbrev pub array_places : Reference → ℕ → ℕ → List Place
array_places r row zero = []
array_places r row (suc n) = row_places r row 0 r.columns ++ array_places r (suc row) n

abbrev pub places_of : List Reference → List Place
places_of [] = []
places_of (r ∷ rs) = array_places r 0 r.rows ++ places_of rs
