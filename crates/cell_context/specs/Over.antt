-- What lies over a square in a cell, other than through one reference.
use Rattle.std.specs.Prelude.{◌≡◌, ◌⊎◌, ◌↔◌, ℕ, true, Option, Some, None, List}
use Rattle.geo_base.specs.Rects.{has, IsRect, IsInside}
use Rattle.geo_base.specs.Motions.{moved_square}
use Rattle.geo_base.specs.declared.layer.LayerKey.{LayerKey}
use Rattle.geo_base.specs.declared.shapes.Rect.{Rect}
use Rattle.geo_base.specs.declared.shapes.Square.{Square}
use Rattle.rect_sets.specs.Rects.{covers}
use Rattle.flat_layout.specs.Layout.{InFlatInput, Some_of}
use Rattle.cell_graph.specs.declared.cells.Place.{Place}
use Rattle.cell_graph.specs.Grown.{IsInGrown}
use Rattle.cell_graph.specs.Linked.{Linked, IsSound, IsStep, IsFrame, hull_of, cell_at}
use Rattle.cell_graph.specs.Linked.{own_of, plain, motion_at}
use Rattle.cell_context.specs.declared.arrays.Visit.{Visit}
use Rattle.cell_context.specs.Visits.{IsVisited}

-- a flat square of a placed cell comes to q, other than through the reference to be skipped
pub record IsThrough (d : Linked) (cell : ℕ) (skip : Option ℕ) (key : LayerKey)
    (q : Square) : Type 0 where
  pub index : ℕ
  pub row : ℕ
  pub column : ℕ
  pub from : Place
  pub step : IsStep d cell index row column from
  pub kept : skip ≡ Some index → ⊥
  pub square : Square
  pub flat : InFlatInput (plain d) from.cell key square
  pub image : moved_square (motion_at from row column) square ≡ q

-- a shape lies over q in the cell, other than through the reference to be skipped
abbrev pub IsOver : Linked → ℕ → Option ℕ → LayerKey → Square → Type 0
IsOver d cell skip key q =
    (covers (own_of (cell_at d cell) key) q ≡ true) ⊎ IsThrough d cell skip key q

-- where nothing is skipped these are the flat squares
abbrev pub OverLaw : Type 0
OverLaw = (d : Linked) → IsSound d → (cell : ℕ) (key : LayerKey) (q : Square)
    → IsOver d cell None key q ↔ InFlatInput (plain d) cell key q

-- a part of a placed cell's hull, grown by n, that reaches into the window
pub record IsVisit (n : ℕ) (d : Linked) (cell : ℕ) (skip : Option ℕ) (w : Rect) (v : Visit) :
    Type 0 where
  pub index : ℕ
  pub row : ℕ
  pub column : ℕ
  pub from : Place
  pub step : IsStep d cell index row column from
  pub kept : skip ≡ Some index → ⊥
  pub cell_is : v.cell ≡ from.cell
  pub motion_is : v.motion ≡ motion_at from row column
  pub near : IsFrame v.window
  pub held : (q : Square) → has v.window q ≡ true → IsInGrown n (hull_of (cell_at d v.cell)) q
  pub has : (q : Square) → has v.window q ≡ true → has w (moved_square v.motion q) ≡ true

-- each element's squares, of its grown hull, that come into the window are visited, of one
-- reference
abbrev pub AreVisitedOf : ℕ → Linked → ℕ → ℕ → Place → Rect → List Visit → Type 0
AreVisitedOf n d cell i p w visits = (row column : ℕ) (q : Square) → IsStep d cell i row column p
    → IsInGrown n (hull_of (cell_at d p.cell)) q
    → has w (moved_square (motion_at p row column) q) ≡ true
    → Some_of (IsVisited p row column q) visits

-- the same of the reference of a number, unless it is skipped
abbrev pub AreVisitedAt : ℕ → Linked → ℕ → Option ℕ → Rect → ℕ → List Visit → Type 0
AreVisitedAt n d cell skip w i visits =
    (row column : ℕ) (p : Place) (q : Square) → IsStep d cell i row column p → (skip ≡ Some i → ⊥)
    → IsInGrown n (hull_of (cell_at d p.cell)) q
    → has w (moved_square (motion_at p row column) q) ≡ true
    → Some_of (IsVisited p row column q) visits

-- and of all
abbrev pub AreVisited : ℕ → Linked → ℕ → Option ℕ → Rect → List Visit → Type 0
AreVisited n d cell skip w visits =
    (i row column : ℕ) (p : Place) (q : Square) → IsStep d cell i row column p → (skip ≡ Some i → ⊥)
    → IsInGrown n (hull_of (cell_at d p.cell)) q
    → has w (moved_square (motion_at p row column) q) ≡ true
    → Some_of (IsVisited p row column q) visits

-- a rectangle within the window
pub record IsPiece (w r : Rect) : Type 0 where
  pub some : IsRect r
  pub inside : IsInside r w
