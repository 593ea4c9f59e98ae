-- What the links of a pair of placements say of a cell's items.
use Rattle.std.specs.Prelude.{◌≡◌, ◌⊎◌, ◌↔◌, ℕ, ◌+◌, ◌<◌, List, Some, slice_get, length}
use Rattle.flat_layout.specs.Layout.{Design, Place}
use Rattle.flat_layout.specs.Nets.{Item, Child, Tables, NetHolds, AreRightBelow, items_of}
use Rattle.flat_layout.specs.Plane.{IsNear}
use Rattle.flat_layout.specs.Regions.{Wiring, At, IsJoined}
use Rattle.geo_base.specs.Motions.{moved_square}
use Rattle.geo_base.specs.Near.{IsNearRect}
use Rattle.geo_base.specs.declared.shapes.Square.{Square}
use Rattle.geo_base.specs.declared.shapes.Rect.{Rect}
use Rattle.link_classes.specs.Classes.{AreInRange, IsLinked}
use Rattle.link_classes.specs.declared.classes.Link.{Link}
use Rattle.net_link_laws.specs.Found.{IsSquareLink}
use Rattle.net_link_laws.specs.Places.{owned_before, nets_before, places_of}
use Rattle.net_link_laws.specs.Windows.{IsEnoughFor}
use Rattle.geo_base.specs.Rects.{grown}
use Rattle.net_walk.specs.Seen.{AreLinksOver, IsSeenOfTwo}
use Rattle.net_walk.specs.Walk.{IsSpan, HasNoSquare}
use Rattle.touching_pieces.specs.Pairs.{AreJoined, AreOne, IsAmong}
use Rattle.touching_pieces.specs.declared.pieces.Piece.{Piece}
use Rattle.touching_pieces.specs.declared.conductors.Joined.{Joined}

-- the place of the first net of a placement
abbrev pub first_of : Design → Wiring → Tables → ℕ → ℕ → ℕ
first_of d w t cell k =
    owned_before t cell (length w.conductors) + nets_before t (places_of d cell) k

-- each link is one by squares between items, and chains of links join what such links of the two
-- placements join
pub record ArePairLinks (d : Design) (w : Wiring) (t : Tables) (cell k l : ℕ)
    (links : List Link) : Type 0 where
  pub each : (i j : ℕ) → IsLinked links i j → (a : Item) × (b : Item)
      × (slice_get (items_of d w t cell) i ≡ Some a) × (slice_get (items_of d w t cell) j ≡ Some b)
      × IsSquareLink d w t cell a b
  pub found : (x y : ℕ) → IsSquareLink d w t cell (Child k x) (Child l y)
      → AreOne links (first_of d w t cell k + x) (first_of d w t cell l + y)

-- links over what is seen of two placements in a window that is enough for both are theirs
abbrev pub PairLaw : Type 0
PairLaw = (d : Design) (w : Wiring) (t : Tables) (cell k l : ℕ) (p q : Place) (window : Rect)
    (joins : List Joined) (links : List Link) → AreRightBelow d w t cell
    → slice_get (places_of d cell) k ≡ Some p → slice_get (places_of d cell) l ≡ Some q
    → IsEnoughFor d t p q window → ((c e : ℕ) → AreJoined joins c e ↔ IsJoined w c e)
    → AreLinksOver joins (IsSeenOfTwo d t window (length w.conductors) p (first_of d w t cell k) q
    (first_of d w t cell l)) links → ArePairLinks d w t cell k l links

-- a window for two placements, near the origin
pub record IsWindowFor (d : Design) (t : Tables) (p q : Place) (window : Rect) : Type 0 where
  pub near : IsNearRect window
  pub enough : IsEnoughFor d t p q window

-- no squares of the two are near each other
abbrev pub AreNeverNear : Design → Tables → Place → Place → Type 0
AreNeverNear d t p q = (c e x y : ℕ) (m n : Square) → NetHolds d t p.cell x (At c m)
    → NetHolds d t q.cell y (At e n) → IsNear (moved_square p.motion m) (moved_square q.motion n)
    → ⊥

-- each new link is one by squares, and chains join what those of the two placements join
pub record AddsPair (d : Design) (w : Wiring) (t : Tables) (cell k l : ℕ)
    (old new : List Link) : Type 0 where
  pub kept : (i j : ℕ) → IsLinked old i j → IsLinked new i j
  pub each : (i j : ℕ) → IsLinked new i j → IsLinked old i j
      ⊎ ((a : Item) × (b : Item) × (slice_get (items_of d w t cell) i ≡ Some a)
      × (slice_get (items_of d w t cell) j ≡ Some b) × IsSquareLink d w t cell a b)
  pub found : (x y : ℕ) → IsSquareLink d w t cell (Child k x) (Child l y)
      → AreOne new (first_of d w t cell k + x) (first_of d w t cell l + y)

-- the piece of a placement: its number, and what bounds it, grown 1 by one square
pub record IsSpanPiece (d : Design) (t : Tables) (p : Place) (number : ℕ) (o : Piece) : Type 0 where
  pub item : o.item ≡ number
  pub span : Rect
  pub is : IsSpan d t p span
  pub rect : o.rect ≡ grown 1 span

-- one more piece, for a placement that has squares
pub record AddsSpan (d : Design) (t : Tables) (p : Place) (number : ℕ)
    (old new : List Piece) : Type 0 where
  pub kept : (o : Piece) → IsAmong o old → IsAmong o new
  pub each : (o : Piece) → IsAmong o new → IsAmong o old ⊎ IsSpanPiece d t p number o
  pub found : HasNoSquare d t p.cell ⊎ ((o : Piece) × IsAmong o new × IsSpanPiece d t p number o)

-- the pieces of the first n placements
pub record AreSpanPieces (d : Design) (t : Tables) (cell n : ℕ) (pieces : List Piece) : Type 0 where
  pub each : (o : Piece) → IsAmong o pieces → (p : Place)
      × (slice_get (places_of d cell) o.item ≡ Some p) × IsSpanPiece d t p o.item o
  pub found : (k : ℕ) (p : Place) → k < n → slice_get (places_of d cell) k ≡ Some p
      → HasNoSquare d t p.cell ⊎ ((o : Piece) × IsAmong o pieces × IsSpanPiece d t p k o)

-- each new link is one by squares, and chains join what those of some pairs of placements join
pub record AddsPairs (d : Design) (w : Wiring) (t : Tables) (cell : ℕ)
    (pairs old new : List Link) : Type 0 where
  pub kept : (i j : ℕ) → IsLinked old i j → IsLinked new i j
  pub each : (i j : ℕ) → IsLinked new i j → IsLinked old i j
      ⊎ ((a : Item) × (b : Item) × (slice_get (items_of d w t cell) i ≡ Some a)
      × (slice_get (items_of d w t cell) j ≡ Some b) × IsSquareLink d w t cell a b)
  pub found : (k l x y : ℕ) → IsLinked pairs k l → IsSquareLink d w t cell (Child k x) (Child l y)
      → AreOne new (first_of d w t cell k + x) (first_of d w t cell l + y)

-- and those of any two placements
pub record AddsChildren (d : Design) (w : Wiring) (t : Tables) (cell : ℕ)
    (old new : List Link) : Type 0 where
  pub kept : (i j : ℕ) → IsLinked old i j → IsLinked new i j
  pub each : (i j : ℕ) → IsLinked new i j → IsLinked old i j
      ⊎ ((a : Item) × (b : Item) × (slice_get (items_of d w t cell) i ≡ Some a)
      × (slice_get (items_of d w t cell) j ≡ Some b) × IsSquareLink d w t cell a b)
  pub found : (k l x y : ℕ) → (k ≡ l → ⊥) → IsSquareLink d w t cell (Child k x) (Child l y)
      → AreOne new (first_of d w t cell k + x) (first_of d w t cell l + y)

-- pairs of placements such that links of these are links of any two
pub record AreEnoughPairs (d : Design) (w : Wiring) (t : Tables) (cell : ℕ)
    (pairs : List Link) : Type 0 where
  pub range : AreInRange (length (places_of d cell)) pairs
  pub all : (old new : List Link) → AddsPairs d w t cell pairs old new
      → AddsChildren d w t cell old new
