-- The other elements of an array, as arrays round one element.
use Rattle.std.specs.Prelude.{◌≡◌, ◌⊎◌, ◌↔◌, true, ◌≤◌, ℕ, ℤ, ◌-◌, ◌*◌, ◌<◌, pos, ◌+ℤ◌, ◌-ℤ◌, ◌*ℤ◌}
use Rattle.std.specs.Prelude.{List, [], ◌∷◌}
use Rattle.geo_base.specs.Motions.{moved_square}
use Rattle.geo_base.specs.Rects.{has}
use Rattle.geo_base.specs.declared.shapes.Rect.{Rect}
use Rattle.rect_sets.specs.Rects.{covers}
use Rattle.geo_base.specs.declared.layer.LayerKey.{LayerKey}
use Rattle.geo_base.specs.declared.shapes.Square.{Square}
use Rattle.flat_layout.specs.Layout.{InFlatInput, Some_of}
use Rattle.cell_graph.specs.declared.cells.Place.{Place}
use Rattle.cell_graph.specs.Linked.{Linked, plain, motion_at}
use Rattle.deep_laws.specs.Zones.{IsFromSibling}
use Rattle.zone_phase.specs.declared.siblings.Shift.{Shift}
use Rattle.zone_phase.specs.declared.siblings.Shifts.{Shifts}

-- how far a shift leads
abbrev pub offset : Shift → ℤ → ℤ
offset s step = (pos s.ahead *ℤ step) -ℤ (pos s.back *ℤ step)

-- the array, begun so many rows and columns further on or back
abbrev pub around : Place → Shifts → Place
around p s = record {
  cell = p.cell;
  motion = record {
    turn = p.motion.turn;
    dx = (p.motion.dx +ℤ offset s.columns p.column_step.x) +ℤ offset s.rows p.row_step.x;
    dy = (p.motion.dy +ℤ offset s.columns p.column_step.y) +ℤ offset s.rows p.row_step.y;
  };
  columns = s.columns.count;
  rows = s.rows.count;
  column_step = p.column_step;
  row_step = p.row_step;
}

-- so many elements from some steps ahead, or from some steps back
abbrev pub ahead : ℕ → ℕ → Shift
ahead steps count = record { ahead = steps; back = 0; count = count }

abbrev pub back : ℕ → ℕ → Shift
back steps count = record { ahead = 0; back = steps; count = count }

-- shifted rows, as seen from each of their columns
abbrev pub all_columns : Place → Shift → Place
all_columns p rows =
    around p (record { rows = rows; columns = back (p.columns - 1) (2 * p.columns - 1) })

-- what is right and what is left in the row
abbrev pub row_siblings : Place → List Place
row_siblings p =
    around p (record { rows = ahead 0 1; columns = ahead 1 (p.columns - 1) })
    ∷ around p (record { rows = ahead 0 1; columns = back (p.columns - 1) (p.columns - 1) })
    ∷ []

-- the rows above, the rows below, and these
abbrev pub siblings : Place → List Place
siblings p =
    all_columns p (ahead 1 (p.rows - 1))
    ∷ all_columns p (back (p.rows - 1) (p.rows - 1))
    ∷ row_siblings p

-- an element of one of these brings a flat square of the cell to where the first element takes q
pub record IsBroughtBy (d : Linked) (p : Place) (key : LayerKey) (q : Square)
    (v : Place) : Type 0 where
  pub row : ℕ
  pub column : ℕ
  pub row_in : row < v.rows
  pub column_in : column < v.columns
  pub square : Square
  pub flat : InFlatInput (plain d) p.cell key square
  pub image : moved_square (motion_at v row column) square ≡ moved_square (motion_at p 0 0) q

-- some element of the array has a sibling over q
pub record HasSibling (d : Linked) (p : Place) (key : LayerKey) (q : Square) : Type 0 where
  pub row : ℕ
  pub column : ℕ
  pub row_in : row < p.rows
  pub column_in : column < p.columns
  pub sibling : IsFromSibling d p row column key q

abbrev pub SiblingLaw : Type 0
SiblingLaw = (d : Linked) (p : Place) (key : LayerKey) (q : Square) → 0 < p.rows → 0 < p.columns
    → HasSibling d p key q ↔ Some_of (IsBroughtBy d p key q) (siblings p)

-- an element of the array brings a flat square of the placed cell to s
pub record IsBroughtTo (d : Linked) (v : Place) (key : LayerKey) (s : Square) : Type 0 where
  pub row : ℕ
  pub column : ℕ
  pub row_in : row < v.rows
  pub column_in : column < v.columns
  pub square : Square
  pub flat : InFlatInput (plain d) v.cell key square
  pub image : moved_square (motion_at v row column) square ≡ s

-- rectangles grew by what the array brings into the window
abbrev pub Brings : Linked → Place → LayerKey → Rect → List Rect → List Rect → Type 0
Brings d v key window old new = (s : Square) → (covers new s ≡ true)
    ↔ ((covers old s ≡ true) ⊎ ((has window s ≡ true) × IsBroughtTo d v key s))

-- rectangles grew by what any of the arrays brings into the window
abbrev pub SomeBring : Linked → List Place → LayerKey → Rect → List Rect → List Rect → Type 0
SomeBring d vs key window old new = (s : Square) → (covers new s ≡ true)
    ↔ ((covers old s ≡ true) ⊎ ((has window s ≡ true) × Some_of (λ v. IsBroughtTo d v key s) vs))

-- shifts by whole rows and columns that stay near
pub record AreShifts (p : Place) (s : Shifts) : Type 0 where
  pub along : (s.rows.ahead ≡ 0) ⊎ (s.rows.back ≡ 0)
  pub across : (s.columns.ahead ≡ 0) ⊎ (s.columns.back ≡ 0)
  pub up_in : s.rows.ahead < p.rows
  pub down_in : s.rows.back < p.rows
  pub right_in : s.columns.ahead < p.columns
  pub left_in : s.columns.back < p.columns
  pub rows_in : s.rows.count ≤ p.rows
  pub columns_in : s.columns.count < 2 * p.columns

-- a shift by whole rows that stays near
pub record IsRowShift (p : Place) (s : Shift) : Type 0 where
  pub along : (s.ahead ≡ 0) ⊎ (s.back ≡ 0)
  pub up_in : s.ahead < p.rows
  pub down_in : s.back < p.rows
  pub rows_in : s.count ≤ p.rows
