-- A cell's own rectangles as pieces, and their links.
use Rattle.std.specs.Prelude.{◌≡◌, ℕ, zero, suc, ◌+◌, ◌<◌, List, [], ◌∷◌, ◌++◌, Some}
use Rattle.std.specs.Prelude.{slice_get}
use Rattle.flat_layout.specs.Layout.{Design}
use Rattle.flat_layout.specs.Nets.{Item, Own, Tables, items_of}
use Rattle.flat_layout.specs.Plane.{IsIn}
use Rattle.flat_layout.specs.Regions.{Wiring}
use Rattle.geo_base.specs.declared.shapes.Rect.{Rect}
use Rattle.geo_base.specs.declared.shapes.Square.{Square}
use Rattle.link_classes.specs.Classes.{IsLinked}
use Rattle.link_classes.specs.declared.classes.Link.{Link}
use Rattle.net_link_laws.specs.Found.{IsSquareLink}
use Rattle.net_link_laws.specs.Places.{owned_before}
use Rattle.touching_pieces.specs.Pairs.{AreOne}
use Rattle.touching_pieces.specs.declared.pieces.Piece.{Piece}

-- the first n rectangles of a conductor, as items that stand from a place on
abbrev pub IsOfRects : List Rect → ℕ → ℕ → ℕ → ℕ → ℕ → Square → Type 0
IsOfRects own conductor at n c i q = (conductor ≡ c) × (r : ℕ) × (r < n) × (rect : Rect)
    × (slice_get own r ≡ Some rect) × IsIn q rect × (at + r ≡ i)

-- the rectangles of the first n conductors, at their places
abbrev pub IsOwned : Tables → ℕ → ℕ → ℕ → ℕ → Square → Type 0
IsOwned t cell n c i q = (c < n) × (r : ℕ) × (rect : Rect)
    × (slice_get (t.own cell c) r ≡ Some rect) × IsIn q rect × (owned_before t cell c + r ≡ i)

-- each link is one by squares between own rectangles, and chains of links join what those join
pub record AreOwnLinks (d : Design) (w : Wiring) (t : Tables) (cell : ℕ)
    (links : List Link) : Type 0 where
  pub each : (i j : ℕ) → IsLinked links i j → (a : Item) × (b : Item)
      × (slice_get (items_of d w t cell) i ≡ Some a) × (slice_get (items_of d w t cell) j ≡ Some b)
      × IsSquareLink d w t cell a b
  pub found : (c r e s : ℕ) → IsSquareLink d w t cell (Own c r) (Own e s)
      → AreOne links (owned_before t cell c + r) (owned_before t cell e + s)

-- the rectangles of a conductor as pieces, whose items stand from a place on
abbrev pub rect_pieces : ℕ → ℕ → List Rect → List Piece
rect_pieces c at [] = []
rect_pieces c at (r ∷ rs) =
    record { conductor = c; rect = r; item = at } ∷ rect_pieces c (suc at) rs

-- those of the first n conductors, each at the place of its item
abbrev pub owned_pieces : Tables → ℕ → ℕ → List Piece
owned_pieces t cell zero = []
owned_pieces t cell (suc n) =
    owned_pieces t cell n ++ rect_pieces n (owned_before t cell n) (t.own cell n)

-- a rectangle of a conductor, at the place of its item
pub record IsOwnPiece (t : Tables) (cell n : ℕ) (o : Piece) : Type 0 where
  pub known : o.conductor < n
  pub number : ℕ
  pub listed : slice_get (t.own cell o.conductor) number ≡ Some o.rect
  pub place : owned_before t cell o.conductor + number ≡ o.item
