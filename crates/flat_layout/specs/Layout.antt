-- A hierarchical layout as plain records: named cells with their own squares and texts and numbered
-- placements, paths of placements, flat input layers, disturbed squares.
use Rattle.std.specs.Prelude.{◌≡◌, ◌⊎◌, ℕ, ◌<◌, List, [], ◌∷◌, ◌++◌, Some, slice_get}
use Rattle.geo_base.specs.Motions.{moved_square}
use Rattle.geo_base.specs.declared.layer.LayerKey.{LayerKey}
use Rattle.geo_base.specs.declared.motion.Motion.{Motion}
use Rattle.geo_base.specs.declared.shapes.Point.{Point}
use Rattle.geo_base.specs.declared.shapes.Rect.{Rect}
use Rattle.geo_base.specs.declared.shapes.Square.{Square}
use Rattle.flat_layout.specs.Plane.{IsIn}
use Rattle.flat_layout.specs.declared.way.Way.{Way}

-- a placement: the placed cell's number, and how it is moved
pub record Place : Type 0 where
  pub cell : ℕ
  pub motion : Motion

-- a cell's own shapes on one layer
pub record Layer : Type 0 where
  pub key : LayerKey
  pub rects : List Rect

-- a text of a layout whose string is empty names nothing, and isn't among the texts of a cell
pub record Text : Type 0 where
  pub key : LayerKey
  pub at : Point
  pub string : List ℕ

-- placements are numbered from 0; an array stands as its placements
pub record Cell : Type 0 where
  pub name : List ℕ
  pub layers : List Layer
  pub texts : List Text
  pub places : List Place

-- cells are numbered from 0 in the order of the file; they keep squares in one way
pub record Design : Type 0 where
  pub cells : List Cell
  pub top : ℕ
  pub way : Way

-- some item has P
abbrev pub Some_of : {A : Type 0} → (A → Type 0) → List A → Type 0
Some_of P [] = ⊥
Some_of P (x ∷ xs) = P x ⊎ Some_of P xs

-- the cell's own shapes on the layer cover the square
abbrev pub IsOwn : Design → ℕ → LayerKey → Square → Type 0
IsOwn d cell key s = (c : Cell) × (slice_get d.cells cell ≡ Some c)
    × Some_of (λ layer. (layer.key ≡ key) × Some_of (IsIn s) layer.rects) c.layers

-- the text stands in the cell
abbrev pub HasText : Design → ℕ → Text → Type 0
HasText d cell text =
    (c : Cell) × (slice_get d.cells cell ≡ Some c) × Some_of (λ t. t ≡ text) c.texts

-- the k-th placement of the cell is this one
abbrev pub IsPlaced : Design → ℕ → ℕ → Place → Type 0
IsPlaced d cell k p =
    (c : Cell) × (slice_get d.cells cell ≡ Some c) × (slice_get c.places k ≡ Some p)

-- no cell stands below itself: each placement goes down
abbrev pub IsHeight : Design → (ℕ → ℕ) → Type 0
IsHeight d height = (cell k : ℕ) (p : Place) → IsPlaced d cell k p → height p.cell < height cell

-- a path, as the numbers of its placements, leads from the one cell to the other, its end
abbrev pub Leads : Design → ℕ → List ℕ → ℕ → Type 0
Leads d from [] to = from ≡ to
Leads d from (k ∷ ks) to = (p : Place) × IsPlaced d from k p × Leads d p.cell ks to

-- and takes a square s of its end to the square q, the innermost motion first
abbrev pub Takes : Design → ℕ → List ℕ → ℕ → Square → Square → Type 0
Takes d from [] to s q = (from ≡ to) × (s ≡ q)
Takes d from (k ∷ ks) to s q = (p : Place) × IsPlaced d from k p × (r : Square)
    × Takes d p.cell ks to s r × (moved_square p.motion r ≡ q)

abbrev pub IsPrefix : List ℕ → List ℕ → Type 0
IsPrefix xs ys = (rest : List ℕ) × (xs ++ rest ≡ ys)

-- some path leads from the top to the cell
pub record IsReached (d : Design) (cell : ℕ) : Type 0 where
  pub path : List ℕ
  pub leads : Leads d d.top path cell

-- q is a flat square of the cell on the layer: some path takes an own square of its end to q
pub record InFlatInput (d : Design) (cell : ℕ) (key : LayerKey) (q : Square) : Type 0 where
  pub path : List ℕ
  pub end : ℕ
  pub square : Square
  pub takes : Takes d cell path end square q
  pub own : IsOwn d end key square

-- q is disturbed in the cell for some layers: over its image by a path from the top to the cell
-- lies a shape of one of these layers whose own path doesn't begin with that path
pub record IsDisturbed (d : Design) (keys : List LayerKey) (cell : ℕ) (q : Square) : Type 0 where
  pub path : List ℕ
  pub other : List ℕ
  pub end : ℕ
  pub square : Square
  pub place : Square
  pub key : LayerKey
  pub listed : Some_of (λ k. k ≡ key) keys
  pub takes : Takes d d.top path cell q place
  pub others : Takes d d.top other end square place
  pub own : IsOwn d end key square
  pub apart : IsPrefix path other → ⊥
