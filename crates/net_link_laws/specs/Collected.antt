-- Pieces of a cell's nets in a window.
use Rattle.std.specs.Prelude.{◌≡◌, ◌⊎◌, ℕ, List, [], Some, slice_get}
use Rattle.flat_layout.specs.Layout.{Design, Place, Some_of, IsPlaced}
use Rattle.flat_layout.specs.Nets.{Item, Own, Child, CellNets, Tables, IsOf, NetHolds}
use Rattle.flat_layout.specs.Plane.{IsIn}
use Rattle.flat_layout.specs.Regions.{At}
use Rattle.geo_base.specs.Motions.{moved_square}
use Rattle.geo_base.specs.declared.shapes.Rect.{Rect}
use Rattle.geo_base.specs.declared.shapes.Square.{Square}
use Rattle.net_link_laws.specs.declared.piece.NetPiece.{NetPiece}

-- a piece of the net covers the square
abbrev pub IsOver : List NetPiece → ℕ → Square → Type 0
IsOver pieces x q = Some_of (λ p. (p.net ≡ x) × IsIn q p.rect) pieces

-- exactly the squares of a conductor that the cell's nets hold in the window, each in pieces of its
-- net
pub record AreCollected (d : Design) (t : Tables) (cell c : ℕ) (window : Rect)
    (pieces : List NetPiece) : Type 0 where
  pub each : (x : ℕ) (q : Square) → IsOver pieces x q → IsIn q window × NetHolds d t cell x (At c q)
  pub found : (x : ℕ) (q : Square) → IsIn q window → NetHolds d t cell x (At c q)
      → IsOver pieces x q

-- the item is in the net
abbrev pub IsInNet : CellNets → Item → ℕ → Type 0
IsInNet v item x = (i : ℕ) × IsOf v x i item

-- of the cell itself: a rectangle of the conductor
pub record IsOverOwn (t : Tables) (cell c : ℕ) (window : Rect) (x : ℕ) (q : Square) : Type 0 where
  pub number : ℕ
  pub rect : Rect
  pub listed : slice_get (t.own cell c) number ≡ Some rect
  pub in_net : IsInNet (t.nets cell) (Own c number) x
  pub inside : IsIn q rect
  pub within : IsIn q window

-- of a placed cell: the image of a piece that was collected there, in the net that has the placed
-- cell's net
pub record IsOverChild (d : Design) (t : Tables) (cell : ℕ) (window : Rect)
    (below : ℕ → List NetPiece) (x : ℕ) (q : Square) : Type 0 where
  pub number : ℕ
  pub place : Place
  pub net : ℕ
  pub square : Square
  pub placed : IsPlaced d cell number place
  pub in_net : IsInNet (t.nets cell) (Child number net) x
  pub over : IsOver (below number) net square
  pub image : moved_square place.motion square ≡ q
  pub within : IsIn q window

-- the window there has all squares of the placed cell's nets that the placement brings into this
-- one
abbrev pub IsWindowBelow : Design → Tables → Place → ℕ → Rect → Rect → Type 0
IsWindowBelow d t p c window inner = (x : ℕ) (m : Square) → NetHolds d t p.cell x (At c m)
    → IsIn (moved_square p.motion m) window → IsIn m inner

-- what was collected through each placement: all in such a window, or nothing where the placement
-- brings none into this one
abbrev pub IsCollectedBelow : Design → Tables → ℕ → ℕ → Rect → (ℕ → List NetPiece) → Type 0
IsCollectedBelow d t cell c window below = (k : ℕ) (p : Place) → IsPlaced d cell k p
    → ((inner : Rect) × IsWindowBelow d t p c window inner
    × AreCollected d t p.cell c inner (below k))
    ⊎ ((below k ≡ []) × ((x : ℕ) (m : Square) → NetHolds d t p.cell x (At c m)
    → IsIn (moved_square p.motion m) window → ⊥))
