-- What drafts of cells name: the design, or the first fault.
use Rattle.std.specs.Prelude.{◌≡◌, ◌⊎◌, ℕ, zero, suc, ◌<◌, ◌≤◌, ◌^◌, ◌≤ℤ◌, List, [], Option, Some}
use Rattle.std.specs.Prelude.{None, length, map, slice_get, slice_index, Result, Ok, Err}
use Rattle.geo_base.specs.Motions.{moved_point}
use Rattle.geo_base.specs.declared.motion.Motion.{Motion}
use Rattle.geo_base.specs.declared.shapes.Point.{Point}
use Rattle.geo_base.specs.declared.shapes.Rect.{Rect}
use Rattle.flat_layout.specs.Arrays.{Reference, place_at}
use Rattle.flat_layout.specs.Layout.{Some_of}
use Rattle.cell_graph.specs.Linked.{Linked, IsPointWithin, cell_at}
use Rattle.cell_graph.specs.declared.cells.Place.{Place}
use Rattle.cell_graph.specs.declared.cells.CellPart.{CellPart}
use Rattle.cell_graph.specs.declared.drafts.DraftRef.{DraftRef}
use Rattle.cell_graph.specs.declared.drafts.CellDraft.{CellDraft}
use Rattle.cell_graph.specs.declared.drafts.LinkFault.{LinkFault}
use Rattle.cell_graph.specs.declared.drafts.LinkFault.TheVariants.{TooManyCells, DuplicateCell}
use Rattle.cell_graph.specs.declared.drafts.LinkFault.TheVariants.{NoSuchCell, Cycle, TooDeep}
use Rattle.cell_graph.specs.declared.drafts.LinkFault.TheVariants.{NoTop, TopUnclear}
use Rattle.cell_graph.specs.declared.drafts.LinkFault.TheVariants.{CoordinateRange, NoMemory}
use Rattle.cell_graph.specs.Parts.{Part}
use Rattle.cell_graph.specs.Chains.{Leads, IsOnCycle, IsTooDeep, IsHeightOf, IsFirst, AreFirstTwo}

abbrev pub names_of : List CellDraft → List (List ℕ)
names_of cells = map (λ c. c.name) cells

-- the cell of a number has this name
pub record IsNamed (cells : List CellDraft) (name : List ℕ) (i : ℕ) : Type 0 where
  pub cell : CellDraft
  pub there : slice_get cells i ≡ Some cell
  pub named : cell.name ≡ name

abbrev pub IsMissing : List CellDraft → List ℕ → Type 0
IsMissing cells name = (i : ℕ) → IsNamed cells name i → ⊥

-- the k-th reference of a cell
pub record HasRef (cells : List CellDraft) (i k : ℕ) (r : DraftRef) : Type 0 where
  pub cell : CellDraft
  pub there : slice_get cells i ≡ Some cell
  pub ref : slice_get cell.refs.items k ≡ Some r

-- a reference of the one cell names the other
pub record Refers (cells : List CellDraft) (i j : ℕ) : Type 0 where
  pub number : ℕ
  pub ref : DraftRef
  pub has : HasRef cells i number ref
  pub names : IsNamed cells ref.cell j

-- its name stands before it
pub record IsRepeat (cells : List CellDraft) (i : ℕ) : Type 0 where
  pub name : List ℕ
  pub here : IsNamed cells name i
  pub earlier : ℕ
  pub before : earlier < i
  pub there : IsNamed cells name earlier

-- a reference to a missing cell
abbrev pub IsLoose : List CellDraft → ℕ → ℕ → Type 0
IsLoose cells i k = (r : DraftRef) × HasRef cells i k r × IsMissing cells r.cell

-- the first such, by cell and then by reference, and the name in it
pub record IsFirstLoose (cells : List CellDraft) (name : List ℕ) : Type 0 where
  pub cell : ℕ
  pub number : ℕ
  pub ref : DraftRef
  pub has : HasRef cells cell number ref
  pub names : ref.cell ≡ name
  pub missing : IsMissing cells name
  pub cells_before : (i k : ℕ) → i < cell → IsLoose cells i k → ⊥
  pub refs_before : (k : ℕ) → k < number → IsLoose cells cell k → ⊥

-- no cell refers to it
pub record IsRoot (cells : List CellDraft) (i : ℕ) : Type 0 where
  pub there : i < length cells
  pub free : (k : ℕ) → Refers cells k i → ⊥

-- the top: the cell of the name given, or the only one that none refers to
abbrev pub IsTop : List CellDraft → Option (List ℕ) → ℕ → Type 0
IsTop cells None i = IsRoot cells i × ((j : ℕ) → IsRoot cells j → j ≡ i)
IsTop cells (Some name) i = IsNamed cells name i

-- there is no cell, or none of the given name
abbrev pub HasNoTop : List CellDraft → Option (List ℕ) → Type 0
HasNoTop cells None = cells ≡ []
HasNoTop cells (Some name) = IsMissing cells name

-- no name is given, and these are the first two that none refers to
abbrev pub HasTwoTops : List CellDraft → Option (List ℕ) → ℕ → ℕ → Type 0
HasTwoTops cells None i j = AreFirstTwo (IsRoot cells) i j
HasTwoTops cells (Some name) i j = ⊥

-- the array of a reference, whatever cell it places
abbrev pub array_of : DraftRef → Reference
array_of r = record {
  cell = 0;
  turn = r.motion.turn;
  origin =
      record { x = r.motion.dx; y = r.motion.dy };
  columns = r.columns;
  rows = r.rows;
  column_step =
      r.column_step;
  row_step = r.row_step;
}

abbrev pub element_motion : DraftRef → ℕ → ℕ → Motion
element_motion r row column = (place_at (array_of r) row column).motion

-- an element of the array of a reference
pub record IsElementOf (cells : List CellDraft) (i : ℕ) (m : Motion) (j : ℕ) : Type 0 where
  pub number : ℕ
  pub ref : DraftRef
  pub has : HasRef cells i number ref
  pub names : IsNamed cells ref.cell j
  pub row : ℕ
  pub column : ℕ
  pub row_in : row < ref.rows
  pub column_in : column < ref.columns
  pub is : element_motion ref row column ≡ m

-- a corner of an own rectangle
abbrev pub IsCorner : Rect → Point → Type 0
IsCorner r p = ((p.x ≡ r.x1) ⊎ (p.x ≡ r.x2)) × ((p.y ≡ r.y1) ⊎ (p.y ≡ r.y2))

abbrev pub IsOrigin : Motion → Point → Type 0
IsOrigin m p = (p.x ≡ m.dx) × (p.y ≡ m.dy)

-- a point of the cell itself: a corner of its own squares, a text's point or the origin of an
-- element
abbrev pub IsOwnPoint : List CellDraft → ℕ → Point → Type 0
IsOwnPoint cells i p =
    ((c : CellDraft) × (slice_get cells i ≡ Some c)
    × Some_of (λ l. Some_of (λ r. IsCorner r p) l.set) c.layers.items)
    ⊎ ((c : CellDraft) × (slice_get cells i ≡ Some c) × Some_of (λ t. t.at ≡ p) c.texts.items)
    ⊎ ((m : Motion) × (j : ℕ) × IsElementOf cells i m j × IsOrigin m p)

-- a chain of n elements takes such a point of its end to p
abbrev pub IsPointBy : List CellDraft → ℕ → ℕ → Point → Type 0
IsPointBy cells zero i p = IsOwnPoint cells i p
IsPointBy cells (suc n) i p = (m : Motion) × (j : ℕ) × IsElementOf cells i m j × (q : Point)
    × IsPointBy cells n j q × (moved_point m q ≡ p)

-- a point that the cell's hull holds
abbrev pub IsHullPoint : List CellDraft → ℕ → Point → Type 0
IsHullPoint cells i p = (n : ℕ) × IsPointBy cells n i p

-- its hull has a coordinate out of range
abbrev pub IsFar : List CellDraft → ℕ → Type 0
IsFar cells i = (p : Point) × IsHullPoint cells i p × (IsPointWithin (2 ^ 36) p → ⊥)

-- the least range of x and of y that holds the points; each of its four sides has one
pub record IsLeastRange (P : Point → Type 0) (r : Rect) : Type 0 where
  pub holds : (p : Point) → P p → (r.x1 ≤ℤ p.x) × (p.x ≤ℤ r.x2) × (r.y1 ≤ℤ p.y) × (p.y ≤ℤ r.y2)
  pub left : (p : Point) × P p × (p.x ≡ r.x1)
  pub low : (p : Point) × P p × (p.y ≡ r.y1)
  pub right : (p : Point) × P p × (p.x ≡ r.x2)
  pub high : (p : Point) × P p × (p.y ≡ r.y2)

-- a hull with squares is the least range; without, there is no point, or the range has no width or
-- no height
abbrev pub IsHullOf : (Point → Type 0) → Option Rect → Type 0
IsHullOf P (Some r) = IsLeastRange P r
IsHullOf P None =
    ((p : Point) → P p → ⊥) ⊎ ((r : Rect) × IsLeastRange P r × ((r.x1 ≡ r.x2) ⊎ (r.y1 ≡ r.y2)))

-- the earlier cell by height, then file order
pub record IsEarlier (cells : List CellDraft) (i j : ℕ) : Type 0 where
  pub height_i : ℕ
  pub height_j : ℕ
  pub of_i : IsHeightOf (Refers cells) i height_i
  pub of_j : IsHeightOf (Refers cells) j height_j
  pub before : (height_i < height_j) ⊎ ((height_i ≡ height_j) × (i < j))

pub record IsFirstFar (cells : List CellDraft) (name : List ℕ) : Type 0 where
  pub cell : ℕ
  pub named : IsNamed cells name cell
  pub far : IsFar cells cell
  pub before : (i : ℕ) → IsEarlier cells i cell → IsFar cells i → ⊥

-- the tests that found nothing
abbrev pub HasFew : List CellDraft → Type 0
HasFew cells = length cells ≤ 2 ^ 16

abbrev pub HasNoRepeat : List CellDraft → Type 0
HasNoRepeat cells = (i : ℕ) → IsRepeat cells i → ⊥

abbrev pub HasNoLoose : List CellDraft → Type 0
HasNoLoose cells = (i k : ℕ) → IsLoose cells i k → ⊥

abbrev pub HasNoCycle : List CellDraft → Type 0
HasNoCycle cells = (i : ℕ) → IsOnCycle (Refers cells) i → ⊥

abbrev pub HasNoDeep : List CellDraft → Type 0
HasNoDeep cells = (i : ℕ) → IsTooDeep (Refers cells) i → ⊥

abbrev pub HasNoFar : List CellDraft → Type 0
HasNoFar cells = (i : ℕ) → IsFar cells i → ⊥

-- the first cell in file order that has P, by its name
abbrev pub IsFirstNamed : List CellDraft → (ℕ → Type 0) → List ℕ → Type 0
IsFirstNamed cells P name = (i : ℕ) × IsNamed cells name i × IsFirst P i

-- no fault of the references: each names one cell, and no chain is too long
pub record AreSound (cells : List CellDraft) : Type 0 where
  pub few : HasFew cells
  pub once : HasNoRepeat cells
  pub resolved : HasNoLoose cells
  pub no_cycle : HasNoCycle cells
  pub no_deep : HasNoDeep cells

-- the fault is the first in the order of the tests
abbrev pub IsFault : List CellDraft → Option (List ℕ) → LinkFault → Type 0
IsFault cells top TooManyCells = 2 ^ 16 < length cells
IsFault cells top (DuplicateCell name) = HasFew cells × IsFirstNamed cells (IsRepeat cells) name
IsFault cells top (NoSuchCell name) = HasFew cells × HasNoRepeat cells × IsFirstLoose cells name
IsFault cells top (Cycle name) = HasFew cells × HasNoRepeat cells × HasNoLoose cells
    × IsFirstNamed cells (IsOnCycle (Refers cells)) name
IsFault cells top (TooDeep name) = HasFew cells × HasNoRepeat cells × HasNoLoose cells
    × HasNoCycle cells × IsFirstNamed cells (IsTooDeep (Refers cells)) name
IsFault cells top NoTop = AreSound cells × HasNoTop cells top
IsFault cells top (TopUnclear one other) = AreSound cells × (i : ℕ) × (j : ℕ) × IsNamed cells one i
    × IsNamed cells other j × HasTwoTops cells top i j
IsFault cells top (CoordinateRange name) =
    AreSound cells × ((i : ℕ) × IsTop cells top i) × IsFirstFar cells name
IsFault cells top NoMemory = Unit {0}

-- a reference resolved
pub record IsResolved (cells : List CellDraft) (r : DraftRef) (p : Place) : Type 0 where
  pub names : IsNamed cells r.cell p.cell
  pub motion : p.motion ≡ r.motion
  pub columns : p.columns ≡ r.columns
  pub rows : p.rows ≡ r.rows
  pub column_step : p.column_step ≡ r.column_step
  pub row_step : p.row_step ≡ r.row_step

-- all references in order
pub record AreAllResolved (cells : List CellDraft) (refs : List DraftRef)
    (places : List Place) : Type 0 where
  pub count : length places ≡ length refs
  pub each : (k : ℕ) (r : DraftRef) (p : Place) → slice_get refs k ≡ Some r
      → slice_get places k ≡ Some p → IsResolved cells r p

-- the cell that a draft becomes
pub record IsPartOf (cells : List CellDraft) (i : ℕ) (c : CellDraft) (p : CellPart) : Type 0 where
  pub name : p.name ≡ c.name
  pub layers : p.layers.items ≡ c.layers.items
  pub texts : p.texts.items ≡ c.texts.items
  pub places : AreAllResolved cells c.refs.items p.places.items
  pub height : IsHeightOf (Refers cells) i p.height
  pub hull : IsHullOf (IsHullPoint cells i) p.hull

-- the cells that the top reaches, by height and then file order
pub record IsLinkOrder (cells : List CellDraft) (top : ℕ) (order : List ℕ) : Type 0 where
  pub reached : (k : ℕ) → k < length order → (n : ℕ)
      × Leads (Refers cells) top n (slice_index order k)
  pub all : (n i : ℕ) → Leads (Refers cells) top n i → (k : ℕ) × (k < length order)
      × (slice_index order k ≡ i)
  pub rising : (j k : ℕ) → j < k → k < length order
      → IsEarlier cells (slice_index order j) (slice_index order k)

-- the design that the drafts name
pub record IsLink (cells : List CellDraft) (top : Option (List ℕ)) (d : Linked) : Type 0 where
  pub sound : AreSound cells
  pub near : HasNoFar cells
  pub count : length d.cells ≡ length cells
  pub each : (i : ℕ) (c : CellDraft) (p : CellPart) → slice_get cells i ≡ Some c
      → cell_at d i ≡ Some p → IsPartOf cells i c p
  pub tops : IsTop cells top d.top
  pub order : IsLinkOrder cells d.top d.order

-- the answer is the design, or the first fault
abbrev pub IsAnswer : List CellDraft → Option (List ℕ) → Result Linked LinkFault → Type 0
IsAnswer cells top (Ok d) = IsLink cells top d
IsAnswer cells top (Err f) = IsFault cells top f

-- all references of all cells are resolved
pub record AreParts (cells : List CellDraft) (parts : List Part) : Type 0 where
  pub count : length parts ≡ length cells
  pub each : (i : ℕ) (c : CellDraft) (p : Part) → slice_get cells i ≡ Some c
      → slice_get parts i ≡ Some p → AreAllResolved cells c.refs.items p.items
